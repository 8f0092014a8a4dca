-- Laws of the answers: the marks that are 1 are counted as the library counts.
use Rattle.std.specs.Prelude.{ℕ, suc, ◌+◌, ◌≡◌, refl, cond, List, count_by, ◌==◌}
use Rattle.std.proofs.Common.{sym, ap, arith}
use Rattle.std.proofs.lemmas.List.Recursion.{is_count_by}
use Rattle.told.specs.Answers.{marked}

one_more : (n : ℕ) → suc n ≡ 1 + n
one_more n = omega arith

pub counted : (marks : List ℕ) → count_by (λ mark. mark == 1) marks ≡ marked marks
unfolding marked
counted marks = sym (is_count_by marked (λ mark. mark == 1) refl (λ mark rest. ap (λ (n : ℕ). cond (mark == 1) n (marked rest)) (one_more (marked rest))) marks)
