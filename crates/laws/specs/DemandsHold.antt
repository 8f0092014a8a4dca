-- Demands 1, 2 and 3, proved of the calls of `meaning`.
use Rattle.std.specs.Prelude.{ℕ, zero, suc, ◌+◌, ◌*◌, ◌≤◌, ◌≡◌, refl, ◌↔◌, Bool, true, false, cond, List, [], ◌∷◌, length, take, ltb}
use Rattle.std.proofs.Common.{sym, ap, subst, ◌∙◌, inl, inr, arith, zero-mul, le-ltb}
use Rattle.std.proofs.Math.Path.{subst⁻¹}
use Rattle.std.proofs.Math.Option.{Option, none, some}
use Rattle.std.proofs.lemmas.List.{length-map}
use Rattle.meaning.specs.Meaning.{Problem, k, Marks, SetOf}
use Rattle.meaning.specs.File.{accepted, read}
use Rattle.meaning.specs.Rules.{asked, Row, Listing, largest, one, listing}
use Rattle.meaning.specs.Calls.{Outcome, Program, refusal, answered, on_reading, written, marked, within, with_room, cut, listed, largest_job, one_job, list_job, check_call, largest_call, one_call, list_call}
use Rattle.meaning.specs.Demands
use Rattle.meaning.specs.Demands.{Trimmer, In, Answered, RefusedBy, marks_in, rows_in, set_left, rows_left, one_count, list_count, SomeSafeInductive, Complete, FirstRows, RowsFit, FixedBy, Demand1, Demand2, Demand3}
use Rattle.laws.specs.Basics.{nonzero}
use Rattle.laws.specs.Within.{WellFormed}
use Rattle.laws.specs.Named.{accepted_well_formed}
use Rattle.laws.specs.Runs.{no_run_is_bad}
use Rattle.laws.specs.Written.{first_written}
use Rattle.laws.specs.NodeRight.{sets_of}
use Rattle.laws.specs.ListingRight.{row_sets}
use Rattle.laws.specs.RowOrder.{ordered_unique}
use Rattle.laws.specs.Budget.{AllLong, AllFound, Leaves, cut_leaves, cut_answered, cut_completes}
use Rattle.laws.specs.FoundAt.{listing_found}
use Rattle.laws.specs.Paper.{largest_is, one_minimal, one_some_is, listing_complete, listing_last, listing_safe}

-- the trimmer that document 01 fixes
unfoldable pub the_trimmer : Trimmer
the_trimmer = record { check = check_call; largest = largest_call; one = one_call; list = list_call }

-- a job's call on an accepted file is the job
pub on_accepted : (file : List ℕ) (p : Problem) (job : Problem → List ℕ → Outcome) (lent : List ℕ) → read file ≡ accepted p
    → on_reading (read file) job lent ≡ job p lent
unfolding on_reading
on_accepted file p job lent e = rw e

pub demand_1 : Demand1 the_trimmer
unfolding the_trimmer
demand_1 =
    record {
      check = λ file budget lent. refl;
      largest = λ file budget lent. refl;
      one = λ file budget lent. refl;
      list = λ file budget lent. refl;
    }

-- two programs that meet a job's promise are equal
pub promise_unique : (call P Q : Program) → FixedBy call P → FixedBy call Q → (file : List ℕ) (budget : ℕ) (lent : List ℕ)
    → P file budget lent ≡ Q file budget lent
promise_unique call P Q p q file budget lent = p file budget lent ∙ sym (q file budget lent)

-- ---- the marking jobs

-- a marking call that is answered leaves its set
pub marking_answered : (k budget : ℕ) (found : Option Marks) (count : ℕ) (lent : List ℕ)
    → Answered (with_room k budget found count lent)
    → (S : Marks) × (found ≡ some S) × ((with_room k budget found count lent).lent ≡ written 0 S lent)
unfolding with_room within marked refusal answered
marking_answered k budget found count lent h = go (ltb (length lent) k) (ltb budget count) found h
  where
    Made : Bool → Bool → Option Marks → Outcome
    Made short over f = cond short (refusal 9 0 0 0 lent) (cond over (refusal 10 0 budget 0 lent) (marked f count lent))

    go : (short over : Bool) (f : Option Marks) → Answered (Made short over f)
        → (S : Marks) × (f ≡ some S) × ((Made short over f).lent ≡ written 0 S lent)
    go true over f e = absurd (nonzero 8 e)
    go false true f e = absurd (nonzero 9 e)
    go false false none e = absurd (nonzero 10 e)
    go false false (some S) e = (S, refl, refl)

-- one with room, whose count fits the budget, is answered if there is a set
pub marking_given : (k budget : ℕ) (S : Marks) (count : ℕ) (lent : List ℕ) → k ≤ length lent → count ≤ budget
    → Answered (with_room k budget (some S) count lent)
unfolding with_room within marked answered
marking_given k budget S count lent room enough = rw (le-ltb (length lent) k room, le-ltb budget count enough)

-- what was written reads back
read_back : (p : Problem) (S : Marks) (lent : List ℕ) (o : Outcome) → SetOf p S → o.lent ≡ written 0 S lent → set_left p o ≡ S
unfolding set_left
read_back p S lent o sized e =
    ap (marks_in (k p)) e
    ∙ subst (λ (i : ℕ). marks_in i (written 0 S lent) ≡ S) sized (first_written S lent)

some_same : {A : Type 0} {a b : A} → some a ≡ some b → a ≡ b
some_same e = cc

pub largest_left : (file : List ℕ) (p : Problem) (budget : ℕ) (lent : List ℕ) → read file ≡ accepted p
    → Answered (largest_call file budget lent)
    → set_left p (largest_call file budget lent) ≡ (largest (asked p) (k p)).marks
unfolding largest_call largest_job
largest_left file p budget lent e h =
    let L = largest (asked p) (k p) in
    let same = on_accepted file p (largest_job budget) lent e in
    let got = marking_answered (k p) budget (some L.marks) L.count lent (subst Answered same h) in
    let S = got.0 in
    let is = some_same got.1 in
    read_back p L.marks lent (largest_call file budget lent) (largest_is p (accepted_well_formed file p e)).0
    (ap (λ (o : Outcome). o.lent) same ∙ got.2 ∙ ap (λ (X : Marks). written 0 X lent) (sym is))

pub one_left : (file : List ℕ) (p : Problem) (budget : ℕ) (lent : List ℕ) → read file ≡ accepted p
    → Answered (one_call file budget lent)
    → (one (asked p) (k p)).found ≡ some (set_left p (one_call file budget lent))
unfolding one_call one_job
one_left file p budget lent e h =
    let r = one (asked p) (k p) in
    let same = on_accepted file p (one_job budget) lent e in
    let got = marking_answered (k p) budget r.found r.count lent (subst Answered same h) in
    let least = one_minimal p (accepted_well_formed file p e) got.0 got.1 in
    got.1
    ∙ ap some
    (sym (read_back p got.0 lent (one_call file budget lent) least.0
    (ap (λ (o : Outcome). o.lent) same ∙ got.2)))

one_answered : (file : List ℕ) (p : Problem) (budget : ℕ) (lent : List ℕ) → read file ≡ accepted p → one_count p ≤ budget
    → k p ≤ length lent → (S : Marks) → (one (asked p) (k p)).found ≡ some S → Answered (one_call file budget lent)
unfolding one_call one_job one_count
one_answered file p budget lent e enough room S found =
    subst⁻¹ Answered (on_accepted file p (one_job budget) lent e)
    (subst⁻¹ (λ (f : Option Marks). Answered (with_room (k p) budget f (one (asked p) (k p)).count lent)) found
    (marking_given (k p) budget S (one (asked p) (k p)).count lent room enough))

pub demand_2 : Demand2 the_trimmer
unfolding the_trimmer
demand_2 =
    record {
      largest = λ file p budget lent e h.
          subst⁻¹ (Demands.IsLargest p) (largest_left file p budget lent e h) (largest_is p (accepted_well_formed file p e));
      minimal = λ file p budget lent e h.
          one_minimal p (accepted_well_formed file p e) _ (one_left file p budget lent e h);
      no_run = λ file p budget lent e h.
          let least = one_minimal p (accepted_well_formed file p e) _ (one_left file p budget lent e h) in
          no_run_is_bad p _ least.1;
      refused = λ file p budget lent e enough room. (
        λ not_answered some_set.
            let found = one_some_is p (accepted_well_formed file p e) some_set in
            not_answered (one_answered file p budget lent e enough room found.0 found.1),
        λ no_set h.
            let least = one_minimal p (accepted_well_formed file p e) _ (one_left file p budget lent e h) in
            no_set (_, least.0, least.1),
      );
    }

-- ---- the listing

in_sets_long : (k : ℕ) (rows : List Row) → ((S : Marks) → In S (sets_of rows) → length S ≡ k) → AllLong k rows
in_sets_long k [] h = tt
in_sets_long k (row ∷ rest) h = (h row.marks (inl refl), in_sets_long k rest (λ S i. h S (inr i)))

-- a listing leaves the first of its rows; all of them, if it is answered
listed_leaves : (k budget : ℕ) (L : Listing) (lent : List ℕ) → AllLong k L.rows
    → (j : ℕ) × (rows_in k (listed k budget L lent).report.rows (listed k budget L lent).lent ≡ take j (sets_of L.rows))
    × (Answered (listed k budget L lent) → take j (sets_of L.rows) ≡ sets_of L.rows)
unfolding listed refusal rows_in
listed_leaves k budget L lent long = go L.safe (ltb budget L.count) (cut_leaves k budget 0 L.rows L.count lent long)
  where
    Made : Bool → Bool → Outcome
    Made safe over =
        cond safe (cut k budget 0 L.rows L.count lent)
        (cond over (refusal 10 0 budget 0 lent) (refusal 11 0 L.count 0 lent))

    go : (safe over : Bool) → Leaves k 0 L.rows lent (cut k budget 0 L.rows L.count lent)
        → (j : ℕ) × (rows_in k (Made safe over).report.rows (Made safe over).lent ≡ take j (sets_of L.rows))
        × (Answered (Made safe over) → take j (sets_of L.rows) ≡ sets_of L.rows)
    go true over left = left
    go false true left = (0, refl, λ e. absurd (nonzero 9 e))
    go false false left = (0, refl, λ e. absurd (nonzero 10 e))

-- it is answered exactly if the largest set is safe, the count fits the budget and the rows fit the space
listed_answered : (k budget : ℕ) (L : Listing) (lent : List ℕ) → AllLong k L.rows → AllFound L.count L.rows
    → Answered (listed k budget L lent)
    ↔ ((L.safe ≡ true) × (L.count ≤ budget) × (length L.rows * k ≤ length lent))
unfolding listed refusal
listed_answered k budget L lent long found = (λ h. to L.safe (ltb budget L.count) refl h, from)
  where
    Made : Bool → Bool → Outcome
    Made safe over =
        cond safe (cut k budget 0 L.rows L.count lent)
        (cond over (refusal 10 0 budget 0 lent) (refusal 11 0 L.count 0 lent))

    none_before : (i : ℕ) → 0 + i ≡ i
    none_before i = omega arith

    to : (safe over : Bool) → L.safe ≡ safe → Answered (Made safe over)
        → (L.safe ≡ true) × (L.count ≤ budget) × (length L.rows * k ≤ length lent)
    to true over t h =
        let got = cut_answered k budget 0 L.rows L.count lent long (subst⁻¹ (λ (i : ℕ). i ≤ length lent) (zero-mul k) (omega arith)) h in
        (t, got.0, subst (λ (i : ℕ). i * k ≤ length lent) (none_before (length L.rows)) got.1)
    to false true t h = absurd (nonzero 9 h)
    to false false t h = absurd (nonzero 10 h)

    from : (L.safe ≡ true) × (L.count ≤ budget) × (length L.rows * k ≤ length lent) → Answered (Made L.safe (ltb budget L.count))
    from h =
        subst⁻¹ (λ (b : Bool). Answered (Made b (ltb budget L.count))) h.0
        (cut_completes k budget 0 L.rows L.count lent long found h.1
        (subst⁻¹ (λ (i : ℕ). i * k ≤ length lent) (none_before (length L.rows)) h.2))

-- the rows of a listing that was called for, and their lengths
rows_long : (p : Problem) → WellFormed p → AllLong (k p) (listing (asked p) (k p)).rows
rows_long p fine =
    in_sets_long (k p) (listing (asked p) (k p)).rows (λ S i. ((listing_complete p fine).minimal S i).0)

list_left : (file : List ℕ) (p : Problem) (budget : ℕ) (lent : List ℕ) → read file ≡ accepted p
    → (j : ℕ) × (rows_left p (list_call file budget lent) ≡ take j (row_sets (asked p) (k p)))
    × (Answered (list_call file budget lent) → take j (row_sets (asked p) (k p)) ≡ row_sets (asked p) (k p))
unfolding list_call list_job rows_left
list_left file p budget lent e =
    let same = on_accepted file p (list_job budget) lent e in
    let got = listed_leaves (k p) budget (listing (asked p) (k p)) lent (rows_long p (accepted_well_formed file p e)) in (
      got.0,
      ap (λ (o : Outcome). rows_in (k p) o.report.rows o.lent) same ∙ got.1,
      λ h. got.2 (subst Answered same h),
    )

-- an answered listing leaves all rows
pub list_left_all : (file : List ℕ) (p : Problem) (budget : ℕ) (lent : List ℕ) → read file ≡ accepted p
    → Answered (list_call file budget lent) → rows_left p (list_call file budget lent) ≡ row_sets (asked p) (k p)
list_left_all file p budget lent e h = let left = list_left file p budget lent e in left.1 ∙ left.2 h

list_answered : (file : List ℕ) (p : Problem) (budget : ℕ) (lent : List ℕ) → read file ≡ accepted p
    → Answered (list_call file budget lent)
    ↔ (((listing (asked p) (k p)).safe ≡ true) × (list_count p ≤ budget)
    × (length (listing (asked p) (k p)).rows * k p ≤ length lent))
unfolding list_call list_job list_count
list_answered file p budget lent e =
    let same = on_accepted file p (list_job budget) lent e in
    let iff =
    listed_answered (k p) budget (listing (asked p) (k p)) lent (rows_long p (accepted_well_formed file p e))
    (listing_found (asked p) (k p)) in
    (λ h. iff.0 (subst Answered same h), λ h. subst⁻¹ Answered same (iff.1 h))

-- a first part is the first of as many
take_short : {A : Type 0} (j : ℕ) (l : List A) → take j l ≡ take (length (take j l)) l
take_short zero l = refl
take_short (suc j) [] = refl
take_short (suc j) (a ∷ l) = ap (λ r. a ∷ r) (take_short j l)

-- there is one complete list
pub complete_unique : (p : Problem) (l m : List Marks) → Complete p l → Complete p m → l ≡ m
complete_unique p l m c d =
    ordered_unique l m c.ordered d.ordered (λ S i. d.every S (c.minimal S i)) (λ S i. c.every S (d.minimal S i))

rows_fit : (p : Problem) → WellFormed p → (space : ℕ)
    → (length (listing (asked p) (k p)).rows * k p ≤ space) ↔ RowsFit p space
rows_fit p fine space = (
  λ h. (
    row_sets (asked p) (k p),
    listing_complete p fine,
    subst⁻¹ (λ (i : ℕ). i * k p ≤ space) (length-map (listing (asked p) (k p)).rows (λ (r : Row). r.marks)) h,
  ),
  λ (all_rows, c, h).
      subst (λ (i : ℕ). i * k p ≤ space)
      (ap length (complete_unique p all_rows (row_sets (asked p) (k p)) c (listing_complete p fine))
      ∙ length-map (listing (asked p) (k p)).rows (λ (r : Row). r.marks))
      h,
)

pub demand_3 : Demand3 the_trimmer
unfolding the_trimmer
demand_3 =
    record {
      complete = λ file p budget lent e h.
          subst⁻¹ (Complete p) (list_left_all file p budget lent e h) (listing_complete p (accepted_well_formed file p e));
      last = λ file p budget budget' lent lent' e h h'.
          let found = listing_last p (accepted_well_formed file p e) _ (one_left file p budget' lent' e h') in
          (found.0, list_left_all file p budget lent e h ∙ found.1);
      stopped = λ file p budget lent e h.
          let left = list_left file p budget lent e in (
            row_sets (asked p) (k p),
            listing_complete p (accepted_well_formed file p e),
            left.1 ∙ take_short left.0 (row_sets (asked p) (k p))
                ∙ ap (λ (l : List Marks). take (length l) (row_sets (asked p) (k p))) (sym left.1),
          );
      says_complete = λ file p budget lent e. (
        λ h.
            let AllThree = (list_answered file p budget lent e).0 h in (
              (listing_safe p (accepted_well_formed file p e)).0 AllThree.0,
              AllThree.1,
              (rows_fit p (accepted_well_formed file p e) (length lent)).0 AllThree.2,
            ),
        λ (some_set, enough, room).
            (list_answered file p budget lent e).1 (
              (listing_safe p (accepted_well_formed file p e)).1 some_set,
              enough,
              (rows_fit p (accepted_well_formed file p e) (length lent)).1 room,
            ),
      );
    }
