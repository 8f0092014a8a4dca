-- The clauses at the positions of a set: where all of them hold.
use Rattle.std.specs.Prelude.{ℕ, zero, suc, ◌<◌, ◌≡◌, refl, true, false, List, [], ◌∷◌, length, get_or}
use Rattle.std.proofs.Common.{not-suc-le-zero, le_of_suc-le-suc, arith, sym, inl, inr, true≢false}
use Rattle.meaning.specs.Clauses.{Clause, Values, all, holds, all_hold}
use Rattle.meaning.specs.Demands.{In}
use Rattle.meaning.specs.Meaning.{Problem, State, Marks, has, at_marks, lemmas_of, AllOf, Part}
use Rattle.laws.specs.Basics.{and_left, and_right, and_both}
use Rattle.laws.specs.Within.{UpTo, Within}
use Rattle.laws.specs.Range.{clause_at, clauses_of}

in_marks : (c : Clause) (S : Marks) (cs : List Clause) → In c (at_marks S cs) → In c cs
unfolding at_marks
in_marks c [] cs i = elim i [ ]
in_marks c (false ∷ S) [] i = elim i [ ]
in_marks c (true ∷ S) [] i = elim i [ ]
in_marks c (true ∷ S) (d ∷ cs) (inl e) = inl e
in_marks c (true ∷ S) (d ∷ cs) (inr i) = inr (in_marks c S cs i)
in_marks c (false ∷ S) (d ∷ cs) i = inr (in_marks c S cs i)

pub marks_within : (most : ℕ) (S : Marks) (cs : List Clause) → Within most cs → Within most (at_marks S cs)
marks_within most S cs h = clauses_of (UpTo most) (at_marks S cs) (λ c i. clause_at (UpTo most) c cs h (in_marks c S cs i))

-- the clauses of cs at the positions of S hold one by one
abbrev pub EachOf : Marks → List Clause → Values → Type 0
EachOf S cs w = (d : ℕ) → d < length cs → has S d ≡ true → holds w (get_or cs d []) ≡ true

pub each_at : (w : Values) (S : Marks) (cs : List Clause) → all_hold w (at_marks S cs) ≡ true → EachOf S cs w
unfolding at_marks has all_hold all
each_at w [] cs h d g e = absurd (true≢false (sym e))
each_at w (b ∷ S) [] h d g e = absurd (not-suc-le-zero g)
each_at w (true ∷ S) (c ∷ cs) h zero g e = and_left (holds w c) (all_hold w (at_marks S cs)) h
each_at w (true ∷ S) (c ∷ cs) h (suc d) g e =
    each_at w S cs (and_right (holds w c) (all_hold w (at_marks S cs)) h) d (le_of_suc-le-suc g) e
each_at w (false ∷ S) (c ∷ cs) h zero g e = absurd (true≢false (sym e))
each_at w (false ∷ S) (c ∷ cs) h (suc d) g e = each_at w S cs h d (le_of_suc-le-suc g) e

pub all_at_marks : (w : Values) (S : Marks) (cs : List Clause) → EachOf S cs w → all_hold w (at_marks S cs) ≡ true
unfolding at_marks has all_hold all
all_at_marks w [] cs f = refl
all_at_marks w (b ∷ S) [] f = refl
all_at_marks w (true ∷ S) (c ∷ cs) f =
    and_both (holds w c) (all_hold w (at_marks S cs)) (f zero (omega arith) refl)
    (all_at_marks w S cs (λ d g e. f (suc d) (omega arith) e))
all_at_marks w (false ∷ S) (c ∷ cs) f = all_at_marks w S cs (λ d g e. f (suc d) (omega arith) e)

-- where all of a set hold, all of a part of it do
pub all_of_part : (p : Problem) (S T : Marks) → Part S T → (s : State) → AllOf p T s → AllOf p S s
unfolding lemmas_of
all_of_part p S T part s h =
    all_at_marks s S p.lemmas (λ d g e. each_at s T p.lemmas h d g (part d e))
