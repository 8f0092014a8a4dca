use mathlib.Core.Path.{sym, ◌∙◌}
use native.Mathlib.Omega.{arith}
use Prim.Native.Nat.{ℕ}
use Rattle.std.specs.Prelude.{◌≡◌, Bool, true, false, ◌==◌}
use Rattle.std.proofs.Common.{inl, inr}
use Rattle.std.proofs.lemmas.Bool.Decides.{nat_tests}
use Rattle.lemma_text.specs.Words.{word_rises}
use Rattle.lemma_text.specs.Line.{in_range, bad_line, bad_start, bad_last, bad_latch, bad_other, line_closed, line_space}
use Rattle.lemma_text.proofs.line.line_at.Goals as goal
use Rattle.lemma_text.proofs.line.line_at.Goals.{then-text-end-via-then-text-end, then-text-end-via-else-text-end+then-is_empty}

-- whether a list has no items, as a test says it
empty_is : (n : ℕ) (b : Bool) → b ≡ (n == 0) → (b ≡ true → n ≡ 0) × (b ≡ false → n ≡ 0 → ⊥)
empty_is n b said = (λ is. grind (arith, nat_tests), λ is e. grind (arith, nat_tests))

pub returns-then-text-end : goal.returns-then-text-end
returns-then-text-end c =
    let x = c.word_at-x.ensures in
    sym (c.loop-x.invariant.0 ∙ bad_line _ _ _ _ (bad_start _ _ _ _ x
    (elim c.then-text-end.branch [
      | then-text-end-via-then-text-end w ↦ inl w.if-text-end.true
      | then-text-end-via-else-text-end+then-is_empty w ↦ inr (w.if-text-end.false, (empty_is _ _ w.is_empty.ensures).0 w.if-is_empty.true)
    ])))

pub returns-then-p-x : goal.returns-then-p-x
returns-then-p-x c =
    sym
    (c.loop-x.invariant.0 ∙ bad_line _ _ _ _ (bad_last _ _ _ _ c.word_at-x.ensures c.if-text-end.false c.in-10.is c.then-p-x.either))

pub returns-in-10 : goal.returns-in-10
returns-in-10 c =
    sym
    (c.loop-x.invariant.0
    ∙ line_closed _ _ _ _ c.word_at-x.ensures c.if-text-end.false c.in-10.is ((empty_is _ _ c.is_empty.ensures).1 c.if-is_empty.false) c.if-p-x.false (omega arith) _)

pub returns-then-not-contains : goal.returns-then-not-contains
returns-then-not-contains c =
    let said = rw (c.new.ensures.start, c.new.ensures.end, c.new.ensures.exhausted, c.if-not-contains.true) at c.contains.ensures.value in
    let none = sym (said ∙ in_range 1 c.args.latches c.word_at-x.result.number.value) in
    sym
    (c.loop-x.invariant.0
    ∙ bad_line _ _ _ _ (bad_latch _ _ _ _ c.word_at-x.ensures c.if-text-end.false c.in-32.is ((empty_is _ _ c.is_empty.ensures).1 c.if-is_empty.false) c.requires.latches_bound none))

pub loop-x-smaller : goal.loop-x-smaller
loop-x-smaller c = omega (arith, word_rises _ _ _ c.word_at-x.ensures)

pub loop-x-preserved : goal.loop-x-preserved
loop-x-preserved c =
    let said = rw (c.new.ensures.start, c.new.ensures.end, c.new.ensures.exhausted, c.if-not-contains.false) at c.contains.ensures.value in
    let latch = sym (said ∙ in_range 1 c.args.latches c.word_at-x.result.number.value) in (
      c.loop-x.invariant.0
          ∙ line_space _ _ _ _ c.word_at-x.ensures c.if-text-end.false c.in-32.is ((empty_is _ _ c.is_empty.ensures).1 c.if-is_empty.false) c.requires.latches_bound _ latch,
      omega arith,
      omega (arith, word_rises _ _ _ c.word_at-x.ensures),
    )

pub returns-in_default : goal.returns-in_default
returns-in_default c =
    sym
    (c.loop-x.invariant.0
    ∙ bad_line _ _ _ _ (bad_other _ _ _ _ c.word_at-x.ensures c.if-text-end.false (λ e. omega (arith, e)) (λ e. omega (arith, e))))
