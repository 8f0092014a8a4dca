-- What sort of variables a clause list names, said of its members.
use Rattle.std.specs.Prelude.{ℕ, ◌+◌, ◌≤◌, refl, ◌⊎◌, List, [], ◌∷◌, ◌++◌}
use Rattle.std.proofs.Common.{le_trans, arith, sym, subst, inl, inr}
use Rattle.meaning.specs.Clauses.{Literal, Clause, variable}
use Rattle.meaning.specs.Demands.{In}
use Rattle.laws.specs.Basics.{in_append_cases}
use Rattle.laws.specs.Within.{ClauseOf, ClausesOf, UpTo, ClauseWithin, Within, Present}

module _ (P : ℕ → Type 0) where
  pub literal_at : (l : Literal) (c : Clause) → ClauseOf P c → In l c → P (variable l)
  literal_at l [] h x'' = elim x'' [ ]
  literal_at l (k ∷ c) h (inl e) = subst (λ (m : Literal). P (variable m)) (sym e) h.0
  literal_at l (k ∷ c) h (inr g) = literal_at l c h.1 g

  pub clause_at : (c : Clause) (cs : List Clause) → ClausesOf P cs → In c cs → ClauseOf P c
  clause_at c [] h x'' = elim x'' [ ]
  clause_at c (d ∷ cs) h (inl e) = subst (λ (k : Clause). ClauseOf P k) (sym e) h.0
  clause_at c (d ∷ cs) h (inr g) = clause_at c cs h.1 g

  pub clauses_of : (cs : List Clause) → ((c : Clause) → In c cs → ClauseOf P c) → ClausesOf P cs
  clauses_of [] f = tt
  clauses_of (c ∷ cs) f = (f c (inl refl), clauses_of cs (λ d g. f d (inr g)))

  pub of_append : (cs ds : List Clause) → ClausesOf P cs → ClausesOf P ds → ClausesOf P (cs ++ ds)
  of_append cs ds g h = clauses_of (cs ++ ds) (λ c i. either c (in_append_cases c cs ds i))
    where
      either : (c : Clause) → In c cs ⊎ In c ds → ClauseOf P c
      either c (inl i) = clause_at c cs g i
      either c (inr i) = clause_at c ds h i

-- a wider sort
module _ (P Q : ℕ → Type 0) (wide : (v : ℕ) → P v → Q v) where
  pub clause_of_wider : (c : Clause) → ClauseOf P c → ClauseOf Q c
  clause_of_wider [] g = tt
  clause_of_wider (l ∷ c) g = (wide (variable l) g.0, clause_of_wider c g.1)

  pub clauses_of_wider : (cs : List Clause) → ClausesOf P cs → ClausesOf Q cs
  clauses_of_wider [] g = tt
  clauses_of_wider (c ∷ cs) g = (clause_of_wider c g.0, clauses_of_wider cs g.1)

up_to_wider : (few most : ℕ) → few ≤ most → (v : ℕ) → UpTo few v → UpTo most v
up_to_wider few most h v g = (g.0, le_trans g.1 h)

pub clause_wider : (few most : ℕ) → few ≤ most → (c : Clause) → ClauseWithin few c → ClauseWithin most c
clause_wider few most h = clause_of_wider (UpTo few) (UpTo most) (up_to_wider few most h)

pub within_wider : (few most : ℕ) → few ≤ most → (cs : List Clause) → Within few cs → Within most cs
within_wider few most h = clauses_of_wider (UpTo few) (UpTo most) (up_to_wider few most h)

-- a variable of the present moment is one of 1..2n+m
pub present_within : (n m : ℕ) (cs : List Clause) → ClausesOf (Present n m) cs → Within (n + n + m) cs
present_within n m = clauses_of_wider (Present n m) (UpTo (n + n + m)) wide
  where
    wide : (v : ℕ) → Present n m v → UpTo (n + n + m) v
    wide v (inl g) = (g.0, let h = g.1 in omega arith)
    wide v (inr g) = (let h = g.0 in omega arith, g.1)
