use Rattle.std.proofs.Common.{arith, sym, ap, subst, ℕ, suc, ◌≡◌, ◌∙◌, ◌+◌, ◌-◌, ◌<◌, ◌≤◌, [], length, get_or}
use Rattle.meaning.specs.File.{two_at}
use Rattle.format.specs.Section.{next_record, section, Inside}
use Rattle.told_lemmas.specs.LemmaLaws.{inside_more, section_more, section_first}
use Rattle.told_lemmas.proofs.lemmas.record_on.Goals.{In-loop-passed}
use Rattle.told_lemmas.proofs.lemmas.record_on.Goals as goal

-- the record that is passed
fits : (c : In-loop-passed)
    → c.loop-passed.at + 4 + two_at c.args.file.now c.loop-passed.at
    ≤ length c.args.file.now
unfolding next_record
fits c =
    let l = c.loop-passed in
    (inside_more c.args.file.now l.at (c.args.position - l._passed) (omega arith) l.invariant.0).0

pub overflow_add-at : goal.overflow_add-at
overflow_add-at c = omega (arith, fits c)

pub two_at-requires : goal.two_at-requires
two_at-requires c = omega (arith, fits c)

pub overflow_add-at-in-loop-passed : goal.overflow_add-at-in-loop-passed
overflow_add-at-in-loop-passed c = omega (arith, fits (goal.at.overflow_add-at-in-loop-passed c).In-loop-passed, c.two_at.ensures.0)

pub loop-passed-preserved : goal.loop-passed-preserved
unfolding next_record
loop-passed-preserved c =
    let l = c.loop-passed in
    let file = c.args.file.now in
    let left = c.args.position - l._passed in
    let more : 0 < left = omega arith in
    let here : next_record file l.at ≡ l.at + 4 + c.two_at.result = ap (λ (n : ℕ). l.at + 4 + n) (sym c.two_at.ensures.0) in
    let less : c.args.position - (l._passed + 1) ≡ left - 1 = omega arith in
    rw less (
      subst (λ (n : ℕ). Inside file n (suc (left - 1))) here (inside_more file l.at left more l.invariant.0).1,
      l.invariant.1 ∙ section_more file l.at left more ∙ ap (λ (n : ℕ). get_or (section file n (suc (left - 1))) (left - 1) []) here,
    )

pub returns : goal.returns
returns c =
    let l = c.loop-passed in
    (sym (l.invariant.1 ∙ section_first c.args.file.now l.at _ (omega arith)), l.invariant.0.0)
