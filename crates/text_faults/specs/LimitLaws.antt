-- Laws of the limits: a line as a part of its text, the walk over lemma lines, and the spaces of a lemma.
use Prim.Native.Nat.{ℕ, zero, suc, ◌+◌, ◌-◌, ◌≤◌, ◌<◌}
use Rattle.std.specs.Prelude.{◌≡◌, refl, Bool, true, false, cond, List, [], ◌∷◌, length, take, drop, ltb, eqb}
use Rattle.std.proofs.Common.{sym, ap, ◌∙◌, arith, lt-ltb, le-ltb, eq-eqb, ne_eqb}
use Rattle.meaning.specs.Lines.{newline, space, until, line_at, with_first, words}
use Rattle.meaning.specs.CircuitText.{Header}
use Rattle.lines.specs.Numbers.{capped}
use Rattle.lines.specs.Past.{first_word}
use Rattle.symbols.specs.Symbols.{LineTo}
use Rattle.text_faults.specs.declared.limits.Limit.{Limit}
use Rattle.text_faults.specs.declared.limits.Limit.TheVariants.{NoLatch, Latches, Width, LongLemma, Clauses}
use Rattle.text_faults.specs.Places.{count_of, line_number, after_line}
use Rattle.text_faults.specs.Limits.{long_lemma, property_limit, width_limit, header_limit}

-- what stands before a byte is the start of the text
until_start : (b : ℕ) (l : List ℕ) → take (length (until b l)) l ≡ until b l
unfolding until
until_start b [] = refl
until_start b (a ∷ l) = go (eqb a b) (until_start b l)
  where
    go : (t : Bool) → take (length (until b l)) l ≡ until b l
        → take (length (cond t [] (a ∷ until b l))) (a ∷ l) ≡ cond t [] (a ∷ until b l)
    go true on = refl
    go false on = ap (λ (r : List ℕ). a ∷ r) on

pub line_part : (text : List ℕ) (at end : ℕ) → LineTo text at end → take (end - at) (drop at text) ≡ line_at text at
unfolding line_at
line_part text at end line =
    let long : end - at ≡ length (line_at text at) = omega (arith, line.is) in
    ap (λ (n : ℕ). take n (drop at text)) long ∙ until_start newline (drop at text)

-- ---- the walk

pub record Sought (text : List ℕ) (p : ℕ) : Type 0 where
  pub most : ℕ
  pub enough : length text ≤ most + p
  pub is : long_lemma (length text) text 0 ≡ long_lemma most text p

pub seek_start : (text : List ℕ) → Sought text 0
seek_start text = record { most = length text; enough = omega arith; is = refl }

pub seek_done : {text : List ℕ} {p : ℕ} → Sought text p → (p < length text → ⊥) → Clauses ≡ long_lemma (length text) text 0
unfolding long_lemma
seek_done {text} {p} w h = sym (w.is ∙ go w.most)
  where
    go : (n : ℕ) → long_lemma n text p ≡ Clauses
    go zero = refl
    go (suc n) = let le : length text ≤ p = omega (arith, h) in rw (le-ltb p (length text) le)

module _ (text : List ℕ) (p : ℕ) (w : Sought text p) (h : p < length text) (met : ℕ) (counted : met ≡ count_of space (line_at text p)) where
  one_on : (n : ℕ) → length text ≤ n + p → (m : ℕ) × (length text ≤ suc m + p)
      × (long_lemma n text p ≡ cond (ltb 64 met) (LongLemma (line_number text p) met) (long_lemma m text (after_line text p)))
  unfolding long_lemma
  one_on zero e = absurd (omega arith)
  one_on (suc m) e = (m, e, rw (lt-ltb p (length text) h, counted))

  pub seek_found : 64 < met → (r : ℕ) → r ≡ line_number text p → LongLemma r met ≡ long_lemma (length text) text 0
  seek_found over r is =
      let on = one_on w.most w.enough in
      ap (λ (n : ℕ). LongLemma n met) is ∙ sym (w.is ∙ on.2 ∙ (rw (lt-ltb 64 met over)))

  pub seek_on : met ≤ 64 → (q : ℕ) → q ≡ after_line text p → p < q → Sought text q
  seek_on few q is more =
      let on = one_on w.most w.enough in
      record {
        most = on.0;
        enough = omega (arith, on.1);
        is = w.is ∙ on.2 ∙ (rw (le-ltb 64 met few)) ∙ ap (long_lemma on.0 text) (sym is);
      }

-- ---- a line has one word more than spaces

pub words_spaces : (l : List ℕ) → length (words l) ≡ suc (count_of space l)
unfolding words count_of with_first
words_spaces [] = refl
words_spaces (b ∷ l) = go (eqb b space) (first_word l) (words_spaces l)
  where
    go : (t : Bool) → (w : List ℕ) × (ws : List (List ℕ)) × (words l ≡ (w ∷ ws)) → length (words l) ≡ suc (count_of space l)
        → length (cond t ([] ∷ words l) (with_first b (words l))) ≡ suc (cond t (suc (count_of space l)) (count_of space l))
    go true on e = ap suc e
    go false on e = ap (λ (ws : List (List ℕ)). length (with_first b ws)) on.2 ∙ ap length (sym on.2) ∙ e

-- ---- limits by tests on numbers

module _ (h : Header) (lemmas : List ℕ) where
  module _ (i o a b : ℕ) (ei : i ≡ capped h.i) (eo : o ≡ capped h.o) (ea : a ≡ capped h.a) (eb : b ≡ capped h.b) where
    by_counts : cond (ltb 320 (i + a)) (Width i a) (property_limit o b lemmas) ≡ width_limit h lemmas
    unfolding width_limit
    by_counts = rw (ei, eo, ea, eb)

    pub is_wide : 320 < i + a → Width i a ≡ width_limit h lemmas
    is_wide e = sym (rw (lt-ltb 320 (i + a) e)) ∙ by_counts

    pub is_narrow : i + a ≤ 320 → (r : Limit) → r ≡ property_limit o b lemmas → r ≡ width_limit h lemmas
    is_narrow e r is = is ∙ sym (rw (le-ltb 320 (i + a) e)) ∙ by_counts

  module _ (l : ℕ) (el : l ≡ capped h.l) where
    by_latches : cond (eqb l 0) NoLatch (cond (ltb 96 l) (Latches l) (width_limit h lemmas)) ≡ header_limit h lemmas
    unfolding header_limit
    by_latches = rw el

    pub no_latch : l ≡ 0 → NoLatch ≡ header_limit h lemmas
    no_latch e = sym (rw (eq-eqb l 0 e)) ∙ by_latches

    module _ (some : l ≡ 0 → ⊥) where
      pub many_latches : 96 < l → Latches l ≡ header_limit h lemmas
      many_latches e = sym (rw (ne_eqb l 0 some, lt-ltb 96 l e)) ∙ by_latches

      pub few_latches : l ≤ 96 → (r : Limit) → r ≡ width_limit h lemmas → r ≡ header_limit h lemmas
      few_latches e r is = is ∙ sym (rw (ne_eqb l 0 some, le-ltb 96 l e)) ∙ by_latches
