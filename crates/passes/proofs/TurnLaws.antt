-- One turn of a pass over clauses that are read in place: a record, a literal that is denied.
use Prim.Native.Nat.{ℕ, ◌+◌, ◌-◌, ◌*◌, ◌/◌, ◌≤◌, ◌<◌}
use native.Mathlib.Omega.{arith}
use mathlib.Core.Path.{◌≡◌, sym, ap, ◌∙◌, subst, subst₂}
use mathlib.Core.Bool.{Bool, true, false}
use mathlib.Core.List.{List, [], ◌∷◌, map}
use lib.ListN.{length, get_or, drop}
use Rattle.meaning.specs.Clauses.{Clause, variable, negation}
use Rattle.meaning.specs.Meaning.{at_marks}
use Rattle.meaning.specs.Rules.{denied, next}
use Rattle.meaning.specs.Search.{Setting}
use Rattle.meaning.specs.File.{two_at, literal_at, literals}
use Rattle.laws.specs.Within.{ClauseWithin}
use Rattle.format.specs.Section.{next_record, clause_at, section}
use Rattle.format.specs.Forms.{literal_of}
use Rattle.passes.specs.Sweep.{Pass, status, closed, sweep}
use Rattle.passes.specs.declared.Tally.{Tally}
use Rattle.passes.specs.declared.Tally.TheVariants.{Closed}
use Rattle.passes.specs.declared.Status.{Status}
use Rattle.passes.specs.declared.Status.TheVariants.{Holds, Fails, One, More}
use Rattle.passes.specs.Forms.{status_of, tally_at}
use Rattle.passes.specs.Places.{Literals, Records, Denials, OneBelow}
use Rattle.passes.proofs.PassLaws.{sweep_closed}
use Rattle.passes.proofs.PlaceLaws.{section_more, section_done, record_inside, record_literals, records_next, marks_in, marks_out, marks_none, some_left, one_fewer, two_on, denied_more, denials_next, denial_range, denial_within}
use Rattle.passes.proofs.StatusLaws.{one_range}
use Rattle.passes.proofs.TallyLaws.{Met, turn}

-- the literal of a clause that forces one is in range
pub one_below : (v : Setting) (c : Clause) → ClauseWithin 512 c → (s : Status) → status_of s ≡ status v c → OneBelow s
one_below v c within Holds e = tt
one_below v c within Fails e = tt
one_below v c within (One l) e =
    let h : variable (literal_of l) ≤ 512 = one_range 512 v c (literal_of l) within (sym e) in
    omega arith
one_below v c within (More l) e = tt

-- a pass that is closed is over
pub over : (t : Tally) (v : Setting) (cs : List Clause) (whole : Pass) → t ≡ Closed → whole ≡ sweep cs (tally_at t v) → tally_at t v ≡ whole
over t v cs whole is left =
    let shut : tally_at t v ≡ closed = ap (λ (x : Tally). tally_at x v) is in
    shut ∙ sym (sweep_closed cs) ∙ ap (sweep cs) (sym shut) ∙ sym left

-- the lemmas of a set, from a position on
unfoldable pub lemmas_from : List ℕ → List Bool → ℕ → ℕ → ℕ → List Clause
lemmas_from file on at count i = at_marks (drop i on) (section file at (count - i))

pub lemmas_done : (file : List ℕ) (on : List Bool) (at count i : ℕ) → count ≤ i → lemmas_from file on at count i ≡ []
unfolding lemmas_from
lemmas_done file on at count i h =
    ap (at_marks (drop i on)) (section_done file at (count - i) (omega arith)) ∙ marks_none (drop i on)

-- the record that follows so many of them
module _ (file : List ℕ) (at count i : ℕ) (h : i < count) (r : Records file at (count - i)) (len : ℕ) (e : len ≡ two_at file at) where
  there : 0 < count - i
  there = omega arith

  one_less : count - i - 1 ≡ count - (i + 1)
  one_less = omega arith

  pub record_fits : at + (4 + len) ≤ length file
  record_fits = omega (arith, record_inside file at (count - i) there r, e)

  pub record_clause : Literals file (at + 4) (len / 2)
  record_clause = subst (λ (k : ℕ). Literals file (at + 4) (k / 2)) (sym e) (record_literals file at (count - i) there r)

  next_at : next_record file at ≡ at + (4 + len)
  unfolding next_record
  next_at = omega (arith, e)

  pub records_after : Records file (at + (4 + len)) (count - (i + 1))
  records_after = subst₂ (Records file) next_at one_less (records_next file at (count - i) there r)

  more : section file at (count - i) ≡ clause_at file at ∷ section file (at + (4 + len)) (count - (i + 1))
  more =
      section_more file at (count - i) there
      ∙ ap (λ (k : ℕ). clause_at file at ∷ section file k (count - i - 1)) next_at
      ∙ ap (λ (k : ℕ). clause_at file at ∷ section file (at + (4 + len)) k) one_less

  -- its clause is met
  module _ (n m : Tally) (s : Status) (v u : Setting) (is : status_of s ≡ status v (literals file (at + 4) (len / 2)))
      (told : Met n v s m u) where
    met_here : (cs : List Clause) → sweep (clause_at file at ∷ cs) (tally_at n v) ≡ sweep cs (tally_at m u)
    unfolding sweep clause_at
    met_here cs =
        ap (sweep cs)
        (turn n m s v u (clause_at file at) (is ∙ ap (λ (k : ℕ). status v (literals file (at + 4) (k / 2))) e) told)

    pub record_turn : sweep (section file at (count - i)) (tally_at n v)
        ≡ sweep (section file (at + (4 + len)) (count - (i + 1))) (tally_at m u)
    record_turn =
        ap (λ (cs : List Clause). sweep cs (tally_at n v)) more
        ∙ met_here (section file (at + (4 + len)) (count - (i + 1)))

    -- a lemma of the set is met
    pub lemma_in : (on : List Bool) → get_or on i false ≡ true
        → sweep (lemmas_from file on at count i) (tally_at n v)
        ≡ sweep (lemmas_from file on (at + (4 + len)) count (i + 1)) (tally_at m u)
    unfolding lemmas_from
    lemma_in on in_set =
        ap (λ (cs : List Clause). sweep cs (tally_at n v))
        (ap (at_marks (drop i on)) more ∙ marks_in on i (clause_at file at) (section file (at + (4 + len)) (count - (i + 1))) in_set)
        ∙ met_here (at_marks (drop (i + 1) on) (section file (at + (4 + len)) (count - (i + 1))))

  -- a lemma outside the set is passed over
  pub lemma_out : (on : List Bool) (p : Pass) → get_or on i false ≡ false
      → sweep (lemmas_from file on at count i) p ≡ sweep (lemmas_from file on (at + (4 + len)) count (i + 1)) p
  unfolding lemmas_from
  lemma_out on p out =
      ap (λ (cs : List Clause). sweep cs p)
      (ap (at_marks (drop i on)) more ∙ marks_out on i (clause_at file at) (section file (at + (4 + len)) (count - (i + 1))) out)

-- the literal that is denied after so many of them
unfoldable pub denied_from : List ℕ → ℕ → ℕ → ℕ → ℕ → List Clause
denied_from file start count added i = denied (map (next added) (literals file (start + 2 * i) (count - i)))

module _ (file : List ℕ) (start count added i : ℕ) (h : i < count) (r : Denials file (start + 2 * i) (count - i) added) where
  pub denials_after : Denials file (start + 2 * (i + 1)) (count - (i + 1)) added
  denials_after =
      subst₂ (λ (at left : ℕ). Denials file at left added) (two_on file start count i h) (one_fewer file start count i h)
      (denials_next file (start + 2 * i) (count - i) added (some_left file start count i h) r)

  pub denial_below : added + variable (literal_at file (start + 2 * i)) < 513
  denial_below = denial_range file (start + 2 * i) (count - i) added (some_left file start count i h) r

  pub denial_alone : ClauseWithin 512 (negation (next added (literal_at file (start + 2 * i))) ∷ [])
  denial_alone = denial_within file (start + 2 * i) (count - i) added (some_left file start count i h) r

  pub denial_turn : (n m : Tally) (s : Status) (v u : Setting)
      → status_of s ≡ status v (negation (next added (literal_at file (start + 2 * i))) ∷ []) → Met n v s m u
      → sweep (denied_from file start count added i) (tally_at n v) ≡ sweep (denied_from file start count added (i + 1)) (tally_at m u)
  unfolding sweep denied_from
  denial_turn n m s v u is told =
      ap (λ (cs : List Clause). sweep cs (tally_at n v)) (denied_more file (start + 2 * i) (count - i) added (some_left file start count i h) r)
      ∙ ap (sweep (denied (map (next added) (literals file (start + 2 * i + 2) (count - i - 1)))))
      (turn n m s v u (negation (next added (literal_at file (start + 2 * i))) ∷ []) is told)
      ∙ ap (λ (at : ℕ). sweep (denied (map (next added) (literals file at (count - i - 1)))) (tally_at m u)) (two_on file start count i h)
      ∙ ap (λ (left : ℕ). sweep (denied (map (next added) (literals file (start + 2 * (i + 1)) left))) (tally_at m u)) (one_fewer file start count i h)
