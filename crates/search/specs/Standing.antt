-- That a problem stands in its file, and that a question's clauses can be read there, has one proof at most, so a value may keep it.
use Rattle.std.specs.Prelude.{ℕ, zero, suc, List, [], ◌∷◌}
use Rattle.std.specs.Coded.{×_prop, Unit-prop, le_prop}
use Rattle.std.proofs.Common.{arith, inl, inr}
use Rattle.std.proofs.Math.Path.{ap}
use Rattle.meaning.specs.Clauses.{Clause}
use Rattle.meaning.specs.Meaning
use Rattle.laws.specs.Within.{ClauseOf, ClausesOf, UpTo, Present, WellFormed}
use Rattle.format.specs.declared.Problem.{Problem}
use Rattle.search.specs.declared.Parts.{Parts}
use Rattle.passes.specs.Places.{Records, Denials}
use Rattle.search.specs.Places.{Sound}
use Rattle.format.specs.Section.{Inside, Placed, next_record}

inside_once : (file : List ℕ) (at count : ℕ) → IsProp (Inside file at count)
inside_once file at zero = Unit-prop
inside_once file at (suc count) = ×_prop le_prop (inside_once file (next_record file at) count)

module _ (P : ℕ → Type 0) (once : (v : ℕ) → IsProp (P v)) where
  clause_once : (c : Clause) → IsProp (ClauseOf P c)
  clause_once [] = Unit-prop
  clause_once (l ∷ c) = ×_prop (once _) (clause_once c)

  clauses_once : (cs : List Clause) → IsProp (ClausesOf P cs)
  clauses_once [] = Unit-prop
  clauses_once (c ∷ cs) = ×_prop (clause_once c) (clauses_once cs)

up_to_once : (most v : ℕ) → IsProp (UpTo most v)
up_to_once most v = ×_prop le_prop le_prop

-- up to n, or past 2n, and not both
present_once : (n m v : ℕ) → IsProp (Present n m v)
present_once n m v (inl a) (inl b) = ap inl (up_to_once n v a b)
present_once n m v (inl a) (inr b) = absurd (omega (arith, a.1, b.0))
present_once n m v (inr a) (inl b) = absurd (omega (arith, a.0, b.1))
present_once n m v (inr a) (inr b) = ap inr (×_prop le_prop le_prop a b)

well_formed_once : (p : Meaning.Problem) → IsProp (WellFormed p)
well_formed_once p a b = λ i. record {
  init = clauses_once (UpTo _) (up_to_once _) _ a.init b.init i;
  tr = clauses_once (UpTo _) (up_to_once _) _ a.tr b.tr i;
  bad = clauses_once (Present _ _) (present_once _ _) _ a.bad b.bad i;
  lemmas = clauses_once (UpTo _) (up_to_once _) _ a.lemmas b.lemmas i;
}

pub placed_once : (file : List ℕ) (p : Problem) → IsProp (Placed file p)
placed_once file p a b = λ i. record {
  short = le_prop a.short b.short i;
  n_in = le_prop a.n_in b.n_in i;
  m_in = le_prop a.m_in b.m_in i;
  k_in = le_prop a.k_in b.k_in i;
  counts_in = le_prop a.counts_in b.counts_in i;
  init_in = inside_once file _ _ a.init_in b.init_in i;
  tr_in = inside_once file _ _ a.tr_in b.tr_in i;
  bad_in = inside_once file _ _ a.bad_in b.bad_in i;
  lemmas_in = inside_once file _ _ a.lemmas_in b.lemmas_in i;
  well_formed = well_formed_once _ a.well_formed b.well_formed i;
}

records_once : (file : List ℕ) (at count : ℕ) → IsProp (Records file at count)
records_once file at count a b = λ i. record {
  inside = inside_once file at count a.inside b.inside i;
  within = clauses_once (UpTo _) (up_to_once _) _ a.within b.within i;
}

denials_once : (file : List ℕ) (at count added : ℕ) → IsProp (Denials file at count added)
denials_once file at count added a b = λ i. record {
  inside = le_prop a.inside b.inside i;
  within = clause_once (UpTo _) (up_to_once _) _ a.within b.within i;
}

pub sound_once : (file : List ℕ) (q : Parts) → IsProp (Sound file q)
sound_once file q a b = λ i. record {
  first = records_once file _ _ a.first b.first i;
  lemmas = records_once file _ _ a.lemmas b.lemmas i;
  few = le_prop a.few b.few i;
  last = records_once file _ _ a.last b.last i;
  deny = denials_once file _ _ _ a.deny b.deny i;
}
