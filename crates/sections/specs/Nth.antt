-- One number of a line after another.
use Rattle.std.specs.Prelude.{ℕ, zero, suc, ◌+◌, ◌-◌, ◌<◌, ◌≡◌, true, List, ◌∷◌, length, get_or, drop}
use Rattle.std.proofs.Common.{arith, add-one, sym, ap, subst, ◌∙◌}
use Rattle.meaning.specs.Lines.{line_at, ended, of_numbers}
use Rattle.meaning.specs.CircuitText.{numbers_at}
use Rattle.lines.specs.declared.number.Number.{Number}
use Rattle.lines.specs.Digits.{digits_of}
use Rattle.lines.specs.Numbers.{worth}
use Rattle.sections.specs.Rows.{numbers_after, Rest}
use Rattle.sections.specs.Split.{split}

-- x, whose digits start at p, is number i of the line, and the others follow it
pub record Reached (text : List ℕ) (at width i p : ℕ) (x : Number) : Type 0 where
  pub some : 0 < length x.digits.now
  pub rest : Rest text (p + length x.digits.now) (width - suc i)
  pub is : (k : ℕ) → get_or (numbers_at text at) (i + k) 0 ≡ get_or (worth x ∷ numbers_after text (p + length x.digits.now) (width - suc i)) k 0

pub reached_first : (text : List ℕ) (at width : ℕ) (x : Number) → ended text at ≡ true → of_numbers width (line_at text at) ≡ true → 0 < width
    → x.digits.now ≡ digits_of (drop at text) → Reached text at width 0 at x
reached_first text at width x e h least whole =
    let up : width ≡ suc (width - 1) = omega arith in
    let end = at + length x.digits.now in
    let cut = split text at (width - 1) e (subst (λ (w : ℕ). of_numbers w (line_at text at) ≡ true) up h) x whole in
    record {
      some = cut.some;
      rest = cut.rest;
      is = λ k. ap (λ (ns : List ℕ). get_or ns (0 + k) 0) cut.numbers ∙ ap (λ (i : ℕ). get_or (worth x ∷ numbers_after text end (width - 1)) i 0) (none k);
    }
  where
    none : (k : ℕ) → 0 + k ≡ k
    none k = omega arith

module _ (text : List ℕ) (at width i p : ℕ) (x : Number) (less : suc i < width) (r : Reached text at width i p x) where
  end : ℕ
  end = p + length x.digits.now

  -- there is room for the next
  pub reached_inside : p + length x.digits.now < length text
  reached_inside = go (width - suc i) (omega arith) r.rest
    where
      go : (k : ℕ) → 0 < k → Rest text (p + length x.digits.now) k → p + length x.digits.now < length text
      go zero h q = absurd (omega arith)
      go (suc k) h q = q.0

  pub reached_next : (y : Number) → y.digits.now ≡ digits_of (drop (p + length x.digits.now + 1) text)
      → Reached text at width (i + 1) (p + length x.digits.now + 1) y
  unfolding numbers_after
  reached_next y whole =
      let k = width - suc (suc i) in
      let up : width - suc i ≡ suc k = omega arith in
      let q = subst (Rest text (p + length x.digits.now)) up r.rest in
      let cut = split text (p + length x.digits.now + 1) k q.1 q.2 y whole in
      subst (λ (j : ℕ). Reached text at width j (p + length x.digits.now + 1) y) (sym (add-one i))
      (record {
        some = cut.some;
        rest = cut.rest;
        is = λ j.
            ap (λ (a : ℕ). get_or (numbers_at text at) a 0) (shift j) ∙ r.is (suc j)
            ∙ ap (λ (a : ℕ). get_or (numbers_after text (p + length x.digits.now) a) j 0) up
            ∙ ap (λ (ns : List ℕ). get_or ns j 0) cut.numbers;
      })
    where
      shift : (j : ℕ) → suc i + j ≡ i + suc j
      shift j = omega arith

-- the number itself
pub reached_is : (text : List ℕ) (at width i p j : ℕ) (x : Number) → i ≡ j → Reached text at width i p x → worth x ≡ get_or (numbers_at text at) j 0
reached_is text at width i p j x e r =
    sym (r.is 0) ∙ ap (λ (k : ℕ). get_or (numbers_at text at) k 0) (same e)
  where
    same : i ≡ j → i + 0 ≡ j
    same e = omega arith
