use Prim.Native.Nat.{ℕ, ◌+◌}
use mathlib.Core.Path.{sym, ap, ◌∙◌}
use native.Mathlib.Omega.{arith}
use lib.ListN.{length}
use native.Mathlib.Numerals.{add-one}
use Rattle.meaning.specs.Lines.{line_at, words}
use Rattle.lemma_text.specs.Words.{word_rises, word_space_ended}
use Rattle.text_faults.specs.Lemmas.{words_cause}
use Rattle.text_faults.specs.LemmaLaws.{empty_is, ends_inside, line_last, line_spoiled, inner_empty, inner_zero, inner_over, inner_on}
use Rattle.text_faults.proofs.lemmas.words_cause.Goals as goal
use Rattle.text_faults.proofs.lemmas.words_cause.Goals.{then-b-ne32-via-then-b-ne32, then-b-ne32-via-else-b-ne32+then-is_empty}

pub bounds-text-end : goal.bounds-text-end
bounds-text-end c =
    ends_inside _ _ _ c.word_at-x.ensures c.loop-x.invariant.1

pub returns-then-b-eq10 : goal.returns-then-b-eq10
returns-then-b-eq10 c =
    let w = c.word_at-x.ensures in
    let inside = ends_inside _ _ _ w c.loop-x.invariant.1 in
    c.last_cause.ensures ∙ sym (c.loop-x.invariant.0 ∙ line_last _ _ _ w _ _ inside c.if-b-eq10.true)

pub returns-then-b-ne32 : goal.returns-then-b-ne32
returns-then-b-ne32 c =
    let d = c.word_at-x.ensures in
    let inside = ends_inside _ _ _ d c.loop-x.invariant.1 in
    elim c.then-b-ne32.branch [
      | then-b-ne32-via-then-b-ne32 w ↦ sym (c.loop-x.invariant.0 ∙ line_spoiled _ _ _ d _ _ inside c.if-b-eq10.false w.if-b-ne32.true)
      | then-b-ne32-via-else-b-ne32+then-is_empty w ↦
          sym (c.loop-x.invariant.0 ∙ inner_empty _ _ _ d _ _ inside w.if-b-ne32.false ((empty_is _ _ w.is_empty.ensures).0 w.if-is_empty.true))
    ]

pub returns-then-x-eq0 : goal.returns-then-x-eq0
returns-then-x-eq0 c =
    let w = c.word_at-x.ensures in
    let inside = ends_inside _ _ _ w c.loop-x.invariant.1 in
    sym (c.loop-x.invariant.0 ∙ inner_zero _ _ _ w _ _ inside c.if-b-ne32.false ((empty_is _ _ c.is_empty.ensures).1 c.if-is_empty.false) c.if-x-eq0.true)

pub returns-then-latches-x : goal.returns-then-latches-x
returns-then-latches-x c =
    let w = c.word_at-x.ensures in
    let inside = ends_inside _ _ _ w c.loop-x.invariant.1 in
    sym (c.loop-x.invariant.0 ∙ inner_over _ _ _ w _ _ inside c.if-b-ne32.false ((empty_is _ _ c.is_empty.ensures).1 c.if-is_empty.false) c.if-x-eq0.false c.if-latches-x.true)

pub loop-x-smaller : goal.loop-x-smaller
loop-x-smaller c =
    let w = c.word_at-x.ensures in
    omega (arith, ends_inside _ _ _ w c.loop-x.invariant.1, word_rises _ _ _ w)

pub loop-x-preserved : goal.loop-x-preserved
loop-x-preserved c =
    let w = c.word_at-x.ensures in
    let l = c.loop-x in
    let inside = ends_inside _ _ _ w l.invariant.1 in (
      l.invariant.0
          ∙ inner_on _ _ _ w _ _ inside c.if-b-ne32.false ((empty_is _ _ c.is_empty.ensures).1 c.if-is_empty.false) c.if-x-eq0.false c.requires.latches_bound c.if-latches-x.false
          ∙ ap (λ (n : ℕ). words_cause c.args.latches n (words (line_at c.args.text.now ((c.word_at-x.result.start + length c.word_at-x.result.number.digits.now) + 1)))) (sym (add-one l.j)),
      sym (word_space_ended _ _ _ w inside c.if-b-ne32.false) ∙ l.invariant.1,
      omega (arith, inside),
      omega (arith, l.invariant.3, word_rises _ _ _ w),
    )
