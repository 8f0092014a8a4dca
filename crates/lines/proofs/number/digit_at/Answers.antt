-- `lines::number::digit_at` meets its contract, one law for each of its ends. Assumes nothing.
use native.Mathlib.Omega.{arith}
use mathlib.Core.Path.{sym, ap, ◌∙◌}
use Rattle.std.specs.Prelude.{Some}
use Rattle.lines.specs.Digits.{digit_past, digit_none, digit_is}
use Rattle.lines.proofs.number.digit_at.Goals as goal
use Rattle.lines.proofs.number.digit_at.Goals.{then-text-at-via-then-text-at, then-text-at-via-else-text-at+then-not-is_ascii_digit}

pub returns-then-text-at : goal.returns-then-text-at
returns-then-text-at c =
    elim c.then-text-at.branch [
      | then-text-at-via-then-text-at w ↦ (sym (digit_past _ _ w.if-text-at.true), tt)
      | then-text-at-via-else-text-at+then-not-is_ascii_digit w ↦
          (sym (digit_none _ _ w.if-text-at.false (λ low high. grind (arith, w.if-not-is_ascii_digit.ensures.cases))), tt)
    ]

pub returns : goal.returns
returns c =
    let digit = c.if-not-is_ascii_digit.ensures.cases in
    (ap Some c.from.ensures ∙ sym (digit_is _ _ c.if-text-at.false (omega (arith, digit)) (omega (arith, digit))), omega (arith, digit))
