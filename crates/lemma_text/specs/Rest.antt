-- The lemmas from a place of a lemma text on, one line and then the others; and what is told of them.
use Prim.Native.Nat.{ℕ, zero, suc, ◌+◌, ◌≤◌, ◌<◌, max}
use native.Mathlib.Omega.{arith}
use Rattle.std.proofs.Math.Nat.{zero-add}
use Rattle.std.specs.Prelude.{◌≡◌, Bool, ◌&&◌, List, [], ◌∷◌, leb, Option, Some, None, Result, Ok, Err}
use Rattle.std.proofs.Math.Path.{refl, ap}
use Rattle.std.proofs.Common.{sym, ap₂, ◌∙◌}
use Rattle.std.proofs.Math.Bool.{true, false, cond}
use Rattle.std.proofs.Math.ListN.{length}
use borrow.Author.Tests.{le-leb, lt-leb, ltb-true}
use Rattle.meaning.specs.Clauses.{Clause}
use Rattle.meaning.specs.Lines.{line_at, ended, next_line, words}
use Rattle.meaning.specs.LemmaText as Text
use Rattle.meaning.specs.LemmaText.{wrong, right, lemma_right, lemma_of, lemma_and, if_lemma, unless_end, lemmas_from}
use Rattle.laws.specs.Basics.{and_left}
use Rattle.lines.specs.declared.fault.Fault.{Fault}
use Rattle.lemma_text.specs.declared.Lemmas.{Lemmas}
use Rattle.lemma_text.specs.declared.line.Line.{Line}
use Rattle.lemma_text.specs.Line.{good_line, lemma_at, line_from}

-- ---- what is told

-- the largest number of literals of a lemma; 0 where there is none
unfoldable pub longest : List Clause → ℕ
longest [] = 0
longest (c ∷ cs) = max (length c) (longest cs)

-- the place of the fault; or how many lemmas there are, and how long the longest is
unfoldable pub summary_of : Text.Lemmas → Result Lemmas Fault
summary_of (wrong at) = Err (record { at = at })
summary_of (right cs) = Ok (record { count = length cs; longest = longest cs })

-- the lemmas, where there is no fault
unfoldable pub lemmas_of : Text.Lemmas → List Clause
lemmas_of (wrong at) = []
lemmas_of (right cs) = cs

-- the same after so many lemmas, of which the longest has so many literals
unfoldable pub summary_on : ℕ → ℕ → Text.Lemmas → Result Lemmas Fault
summary_on n most (wrong at) = Err (record { at = at })
summary_on n most (right cs) = Ok (record { count = n + length cs; longest = max most (longest cs) })

told : (a b c d : ℕ) → a ≡ b → c ≡ d
    → ◌≡◌ {A = Result Lemmas Fault} (Ok (record { count = a; longest = c })) (Ok (record { count = b; longest = d }))
told a b c d e f = rw (e, f)

pub summary_start : (l : Text.Lemmas) → summary_of l ≡ summary_on 0 0 l
unfolding summary_of summary_on
summary_start (wrong at) = refl
summary_start (right cs) = told (length cs) (0 + length cs) (longest cs) (max 0 (longest cs)) (omega arith) (omega arith)

pub summary_more : (n most : ℕ) (c : Clause) (rest : Text.Lemmas)
    → summary_on n most (lemma_and c rest) ≡ summary_on (n + 1) (max most (length c)) rest
unfolding summary_on lemma_and longest
summary_more n most c (wrong at) = refl
summary_more n most c (right cs) =
    told (n + suc (length cs)) (n + 1 + length cs) (max most (max (length c) (longest cs))) (max (max most (length c)) (longest cs))
    (omega arith) (omega arith)

-- ---- the lines from a place on

unfoldable pub lemmas_on : ℕ → List ℕ → ℕ → Text.Lemmas
lemmas_on most text at = lemmas_from (length text) most text at

-- fuel for the bytes that are left is enough
enough : (f g most : ℕ) (text : List ℕ) (at : ℕ) → length text ≤ at + f → length text ≤ at + g
    → lemmas_from f most text at ≡ lemmas_from g most text at
unfolding lemmas_from unless_end next_line
enough zero zero most text at h k = refl
enough zero (suc g) most text at h k = rw (le-leb (length text) at (omega arith))
enough (suc f) zero most text at h k = rw (le-leb (length text) at (omega arith))
enough (suc f) (suc g) most text at h k =
    ap
    (λ (l : Text.Lemmas).
    unless_end (leb (length text) at)
    (if_lemma (ended text at && lemma_right most (words (line_at text at))) at (lemma_and (lemma_of (words (line_at text at))) l)))
    (enough f g most text (next_line text at) (omega arith) (omega arith))

module _ (most : ℕ) (text : List ℕ) (at : ℕ) where
  pub no_more : length text ≤ at → lemmas_on most text at ≡ right []
  unfolding lemmas_on lemmas_from
  no_more h = enough (length text) zero most text at (omega arith) (omega arith)

  one_more : at < length text
      → lemmas_on most text at ≡ if_lemma (good_line most text at) at (lemma_and (lemma_at text at) (lemmas_on most text (next_line text at)))
  unfolding lemmas_on lemmas_from unless_end good_line lemma_at
  one_more inside =
      enough (length text) (suc (length text)) most text at (omega arith) (omega arith) ∙ rw (lt-leb (length text) at inside)

  pub bad_on : at < length text → good_line most text at ≡ false → lemmas_on most text at ≡ wrong at
  unfolding if_lemma
  bad_on inside h = one_more inside ∙ rw h

  pub good_on : at < length text → good_line most text at ≡ true
      → lemmas_on most text at ≡ lemma_and (lemma_at text at) (lemmas_on most text (next_line text at))
  unfolding if_lemma
  good_on inside h = one_more inside ∙ rw h

  -- a line that is ended ends before the text does
  pub good_next : good_line most text at ≡ true → (next_line text at ≤ length text) × (at < next_line text at)
  unfolding good_line ended next_line
  good_next h =
      let within = ltb-true (at + length (line_at text at)) (length text) (and_left (ended text at) (lemma_right most (words (line_at text at))) h) in
      (omega arith, omega arith)

-- ---- a line as it was read

module _ (most : ℕ) (text : List ℕ) (at : ℕ) where
  pub read_bad : None ≡ line_from most text 0 at → good_line most text at ≡ false
  unfolding line_from
  read_bad e = go (good_line most text at) e
    where
      go : (t : Bool) → ◌≡◌ {A = Option Line} None (cond t (Some (record { past = next_line text at; count = 0 + length (lemma_at text at) })) None) → t ≡ false
      go true e = cc
      go false e = refl

  module _ (r : Line) (is : Some r ≡ line_from most text 0 at) where
    pub read_good : (good_line most text at ≡ true) × (r.past ≡ next_line text at) × (r.count ≡ length (lemma_at text at))
    unfolding line_from
    read_good = go (good_line most text at) is
      where
        go : (t : Bool) → ◌≡◌ {A = Option Line} (Some r) (cond t (Some (record { past = next_line text at; count = 0 + length (lemma_at text at) })) None)
            → (t ≡ true) × (r.past ≡ next_line text at) × (r.count ≡ length (lemma_at text at))
        go true e = (refl, cc, cc (zero-add (length (lemma_at text at))))
        go false e = cc

    pub read_past : (r.past ≤ length text) × (at < r.past)
    read_past =
        let g = read_good in
        let n = good_next most text at g.0 in
        (omega (arith, g.1, n.0), omega (arith, g.1, n.1))

    pub read_more : (n top : ℕ) → at < length text
        → summary_on n top (lemmas_on most text at) ≡ summary_on (n + 1) (max top r.count) (lemmas_on most text r.past)
    read_more n top inside =
        let g = read_good in
        ap (summary_on n top) (good_on most text at inside g.0)
        ∙ summary_more n top (lemma_at text at) (lemmas_on most text (next_line text at))
        ∙ ap₂ (λ (k p : ℕ). summary_on (n + 1) (max top k) (lemmas_on most text p)) (sym g.2) (sym g.1)

-- a line at fault, and the end of the text
pub told_fault : (most : ℕ) (text : List ℕ) (at : ℕ) → None ≡ line_from most text 0 at → (n top : ℕ) → at < length text
    → summary_on n top (lemmas_on most text at) ≡ Err (record { at = at })
unfolding summary_on
told_fault most text at none n top inside =
    ap (summary_on n top) (bad_on most text at inside (read_bad most text at none))

pub told_end : (most : ℕ) (text : List ℕ) (at n top : ℕ) → length text ≤ at
    → summary_on n top (lemmas_on most text at) ≡ Ok (record { count = n; longest = top })
unfolding summary_on longest
told_end most text at n top h =
    ap (summary_on n top) (no_more most text at h) ∙ told (n + 0) n (max top 0) top (omega arith) (omega arith)
