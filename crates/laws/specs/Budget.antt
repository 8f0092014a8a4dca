-- The budget and the space: what a call that they cut leaves, and exactly when they cut it.
use Rattle.std.specs.Prelude.{ℕ, suc, ◌+◌, ◌*◌, ◌≤◌, ◌<◌, ◌≡◌, refl, ◌↔◌, Bool, true, false, cond, List, [], ◌∷◌, ◌++◌, length, take, ltb}
use Rattle.std.proofs.Common.{sym, ap, subst, subst₂, ◌∙◌, append_assoc, append-nil, arith, suc-mul, le_trans, mul-le-mul_right, ltb-true, ltb-false, lt-ltb, le-ltb}
use Rattle.std.proofs.Math.Path.{subst⁻¹}
use Rattle.std.proofs.Math.Option.{Option, none, some}
use Rattle.meaning.specs.Meaning.{Marks}
use Rattle.meaning.specs.Rules.{Row}
use Rattle.meaning.specs.Calls.{Outcome, refusal, answered, written, marked, within, with_room, row_or_stop, cut}
use Rattle.meaning.specs.Demands.{Answered, RefusedBy, rows_in}
use Rattle.laws.specs.NodeRight.{sets_of}
use Rattle.laws.specs.Written.{written_length, rows_written}

-- ---- the marking jobs: refused by 10 exactly if the count is over the budget

ten_is_not_zero : ◌≡◌ {A = ℕ} 10 0 → ⊥
ten_is_not_zero e = omega arith

marked_is_not_10 : (found : Option Marks) (count : ℕ) (lent : List ℕ) → RefusedBy 10 (marked found count lent) → ⊥
unfolding marked refusal answered
marked_is_not_10 none count lent e = omega arith
marked_is_not_10 (some S) count lent e = omega arith

pub marking_spent : (k budget : ℕ) (found : Option Marks) (count : ℕ) (lent : List ℕ) → k ≤ length lent
    → RefusedBy 10 (with_room k budget found count lent) ↔ (budget < count)
unfolding with_room within refusal
marking_spent k budget found count lent room = (spent_over, over_spent)
  where
    Cut : Bool → Outcome
    Cut over = cond over (refusal 10 0 budget 0 lent) (marked found count lent)

    at_room : (P : Outcome → Type 0) → P (Cut (ltb budget count)) → P (with_room k budget found count lent)
    at_room P h = rw (le-ltb (length lent) k room) h

    from_room : (P : Outcome → Type 0) → P (with_room k budget found count lent) → P (Cut (ltb budget count))
    from_room P h = rw (le-ltb (length lent) k room) at h

    by_test : (b : Bool) → ltb budget count ≡ b → RefusedBy 10 (Cut b) → budget < count
    by_test true t e = ltb-true budget count t
    by_test false t e = absurd (marked_is_not_10 found count lent e)

    spent_over : RefusedBy 10 (with_room k budget found count lent) → budget < count
    spent_over e = by_test (ltb budget count) refl (from_room (RefusedBy 10) e)

    over_spent : budget < count → RefusedBy 10 (with_room k budget found count lent)
    over_spent h = at_room (RefusedBy 10) (subst⁻¹ (λ (b : Bool). RefusedBy 10 (Cut b)) (lt-ltb budget count h) refl)

-- ---- the listing: a stopped one holds the first rows

-- every row has k marks
abbrev pub AllLong : ℕ → List Row → Type 0
AllLong k [] = Unit {0}
AllLong k (row ∷ rest) = (length row.marks ≡ k) × AllLong k rest

-- every row was found at or before the count
abbrev pub AllFound : ℕ → List Row → Type 0
AllFound count [] = Unit {0}
AllFound count (row ∷ rest) = (row.found_at ≤ count) × AllFound count rest

-- the outcome leaves, behind the r rows that stood there, the first of these rows; all of them, if it was answered
abbrev pub Leaves : ℕ → ℕ → List Row → List ℕ → Outcome → Type 0
Leaves k r rows lent o =
    (j : ℕ) × (rows_in k o.report.rows o.lent ≡ rows_in k r lent ++ take j (sets_of rows))
    × (Answered o → take j (sets_of rows) ≡ sets_of rows)

-- a refusal at once leaves none
refused_leaves : (k r number decisions : ℕ) (rows : List Row) (lent : List ℕ) → (number ≡ 0 → ⊥)
    → Leaves k r rows lent (refusal number 0 decisions r lent)
unfolding refusal
refused_leaves k r number decisions rows lent no_zero =
    (0, sym (append-nil (rows_in k r lent)), λ e. absurd (no_zero e))

-- a row that was written, and what follows it
row_leaves : (k r : ℕ) (row : Row) (rest : List Row) (lent : List ℕ) (o : Outcome) → length row.marks ≡ k
    → r * k + k ≤ length lent → Leaves k (suc r) rest (written (r * k) row.marks lent) o
    → Leaves k r (row ∷ rest) lent o
row_leaves k r row rest lent o long fits (j, e, AllThere) = (
  suc j,
  e
      ∙ ap (λ (l : List Marks). l ++ take j (sets_of rest)) seen
      ∙ append_assoc (rows_in k r lent) (row.marks ∷ []) (take j (sets_of rest)),
  λ h. ap (λ (l : List Marks). row.marks ∷ l) (AllThere h),
)
  where
    seen : rows_in k (suc r) (written (r * k) row.marks lent) ≡ rows_in k r lent ++ (row.marks ∷ [])
    seen =
        subst
        (λ (i : ℕ).
        r * i + i ≤ length lent
        → rows_in i (suc r) (written (r * i) row.marks lent) ≡ rows_in i r lent ++ (row.marks ∷ []))
        long
        (λ h. rows_written r row.marks lent h)
        fits

pub cut_leaves : (k budget r : ℕ) (rows : List Row) (count : ℕ) (lent : List ℕ) → AllLong k rows
    → Leaves k r rows lent (cut k budget r rows count lent)
unfolding cut answered row_or_stop
cut_leaves k budget r [] count lent long = go (ltb budget count)
  where
    go : (b : Bool) → Leaves k r [] lent (cond b (refusal 10 0 budget r lent) (answered count r lent))
    go true = refused_leaves k r 10 budget [] lent (λ e. omega arith)
    go false = (0, sym (append-nil (rows_in k r lent)), λ e. refl)
cut_leaves k budget r (row ∷ rest) count lent long =
    go (ltb budget row.found_at) (ltb (length lent) (r * k + k)) refl
    (cut_leaves k budget (suc r) rest count (written (r * k) row.marks lent) long.1)
  where
    on : Outcome
    on = cut k budget (suc r) rest count (written (r * k) row.marks lent)

    go : (over full : Bool) → ltb (length lent) (r * k + k) ≡ full
        → Leaves k (suc r) rest (written (r * k) row.marks lent) on
        → Leaves k r (row ∷ rest) lent
        (row_or_stop over full (refusal 10 0 budget r lent) (refusal 12 0 row.found_at r lent) on)
    go true full t later = refused_leaves k r 10 budget (row ∷ rest) lent (λ e. omega arith)
    go false true t later = refused_leaves k r 12 row.found_at (row ∷ rest) lent (λ e. omega arith)
    go false false t later =
        row_leaves k r row rest lent on long.0 (ltb-false (length lent) (r * k + k) t) later

-- ---- it is answered exactly if the count fits the budget and the rows fit the space

-- all of n rows of k bytes, after r of them, fit into so many bytes
abbrev pub Fit : ℕ → ℕ → ℕ → ℕ → Type 0
Fit k r n bytes = (r + n) * k ≤ bytes

fit_next : (k r n bytes : ℕ) → Fit k (suc r) n bytes ↔ Fit k r (suc n) bytes
fit_next k r n bytes = (subst (λ (i : ℕ). i * k ≤ bytes) moved, subst⁻¹ (λ (i : ℕ). i * k ≤ bytes) moved)
  where
    moved : suc r + n ≡ r + suc n
    moved = omega arith

-- the first of some rows that all fit does
fit_first : (k r n bytes : ℕ) → Fit k r (suc n) bytes → r * k + k ≤ bytes
fit_first k r n bytes h =
    le_trans (subst (λ (i : ℕ). i ≤ (r + suc n) * k) (suc-mul r k) (mul-le-mul_right k (omega arith))) h

pub cut_answered : (k budget r : ℕ) (rows : List Row) (count : ℕ) (lent : List ℕ) → AllLong k rows → r * k ≤ length lent
    → Answered (cut k budget r rows count lent) → (count ≤ budget) × Fit k r (length rows) (length lent)
unfolding cut row_or_stop refusal
cut_answered k budget r [] count lent long room h = go (ltb budget count) refl h
  where
    go : (b : Bool) → ltb budget count ≡ b → Answered (cond b (refusal 10 0 budget r lent) (answered count r lent))
        → (count ≤ budget) × Fit k r 0 (length lent)
    go true t e = absurd (ten_is_not_zero e)
    go false t e = (ltb-false budget count t, subst⁻¹ (λ (i : ℕ). i * k ≤ length lent) (omega_zero r) room)
      where
        omega_zero : (a : ℕ) → a + 0 ≡ a
        omega_zero a = omega arith
cut_answered k budget r (row ∷ rest) count lent long room h =
    go (ltb budget row.found_at) (ltb (length lent) (r * k + k)) refl
    (λ fits e. cut_answered k budget (suc r) rest count (written (r * k) row.marks lent) long.1 fits e) h
  where
    after : List ℕ
    after = written (r * k) row.marks lent

    kept_length : r * k + k ≤ length lent → length after ≡ length lent
    kept_length fits = written_length (r * k) row.marks lent (subst⁻¹ (λ (i : ℕ). r * k + i ≤ length lent) long.0 fits)

    go : (over full : Bool) → ltb (length lent) (r * k + k) ≡ full
        → (suc r * k ≤ length after → Answered (cut k budget (suc r) rest count after)
        → (count ≤ budget) × Fit k (suc r) (length rest) (length after))
        → Answered (row_or_stop over full (refusal 10 0 budget r lent) (refusal 12 0 row.found_at r lent) (cut k budget (suc r) rest count after))
        → (count ≤ budget) × Fit k r (suc (length rest)) (length lent)
    go true full t on e = absurd (ten_is_not_zero e)
    go false true t on e = absurd (twelve e)
      where
        twelve : ◌≡◌ {A = ℕ} 12 0 → ⊥
        twelve g = omega arith
    go false false t on e =
        let fits = ltb-false (length lent) (r * k + k) t in
        let next = on (subst₂ (λ (a b : ℕ). a ≤ b) (sym (suc-mul r k)) (sym (kept_length fits)) fits) e in
        (next.0, (fit_next k r (length rest) (length lent)).0 (subst (Fit k (suc r) (length rest)) (kept_length fits) next.1))

pub cut_completes : (k budget r : ℕ) (rows : List Row) (count : ℕ) (lent : List ℕ) → AllLong k rows → AllFound count rows
    → count ≤ budget → Fit k r (length rows) (length lent) → Answered (cut k budget r rows count lent)
unfolding cut row_or_stop answered
cut_completes k budget r [] count lent long found enough fits = rw (le-ltb budget count enough)
cut_completes k budget r (row ∷ rest) count lent long found enough fits =
    let first = fit_first k r (length rest) (length lent) fits in
    let reached = le_trans found.0 enough in
    let same = written_length (r * k) row.marks lent (subst⁻¹ (λ (i : ℕ). r * k + i ≤ length lent) long.0 first) in
    rw (le-ltb budget row.found_at reached, le-ltb (length lent) (r * k + k) first)
    (cut_completes k budget (suc r) rest count (written (r * k) row.marks lent) long.1 found.1 enough
    (subst⁻¹ (Fit k (suc r) (length rest)) same ((fit_next k r (length rest) (length lent)).1 fits)))
