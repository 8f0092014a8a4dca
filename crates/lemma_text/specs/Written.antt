-- The literals of a line, as they are written word by word.
use Rattle.std.specs.Prelude.{ℕ, ◌+◌, ◌≤◌, ◌<◌, ◌≡◌, refl, ◌⊎◌, true, false, List, [], ◌++◌, length, get_or, ltb, leb, eqb}
use Rattle.std.proofs.Common.{arith, ◌∙◌, inl, inr}
use Rattle.std.proofs.Math.Path.{sym, ap, ap₂}
use borrow.Author.Tests.{ltb-true, ltb-false, leb-true, eqb-true, eqb-false}
use Rattle.meaning.specs.Clauses.{Literal, pos, neg}
use Rattle.meaning.specs.File.{between}
use Rattle.meaning.specs.Built.{literal_if}
use Rattle.meaning.specs.Lines.{newline, space}
use Rattle.meaning.specs.LemmaText.{latch_literal}
use Rattle.meaning.specs.Filed.{two, literal_bytes, clause_bytes}
use Rattle.laws.specs.Basics.{bool_cases, not_both, and_left, and_right}
use Rattle.lines.specs.Digits.{huge}
use Rattle.lines.specs.Numbers.{worth}
use Rattle.lemma_text.specs.declared.line.Word.{Word}
use Rattle.lines.specs.Literals.{value_below}
use Rattle.records.specs.declared.Records.{Records}
use Rattle.records.specs.Puts.{HasRoom}
use Rattle.lemma_text.specs.Words.{WordAt, minus_at, with_sign, latch_literal_is, sign_before, plain_span}
use Rattle.lemma_text.specs.Line.{good_line, lemma_at, bad_cut, bad_other, bad_empty, bad_latch, last_none, lemma_first, good_space}

-- the line at a place is a lemma over so few latches that two bytes hold a literal
pub record Writable (text : List ℕ) (at : ℕ) : Type 0 where
  pub most : ℕ
  pub few : most ≤ 32767
  pub good : good_line most text at ≡ true

-- the bytes of its literals
unfoldable pub lemma_bytes : List ℕ → ℕ → List ℕ
lemma_bytes text at = clause_bytes (lemma_at text at)

-- a word that is not the last of a line: its literal, and the rest of the line
pub record LiteralAt (text : List ℕ) (at : ℕ) (x : Word) : Type 0 where
  pub low : 1 ≤ x.number.value
  pub high : x.number.value ≤ 32767
  pub next : Writable text ((x.start + length x.number.digits.now) + 1)
  pub bytes : lemma_bytes text at ≡ literal_bytes (literal_if (ltb at x.start) x.number.value) ++ lemma_bytes text ((x.start + length x.number.digits.now) + 1)

module _ (text : List ℕ) (at : ℕ) (x : Word) (w : WordAt text at x) (g : Writable text at) where
  pub byte_after : (x.start + length x.number.digits.now) < length text
  byte_after = go (bool_cases (ltb (x.start + length x.number.digits.now) (length text)))
    where
      go : (ltb (x.start + length x.number.digits.now) (length text) ≡ true) ⊎ (ltb (x.start + length x.number.digits.now) (length text) ≡ false) → (x.start + length x.number.digits.now) < length text
      go (inl t) = ltb-true (x.start + length x.number.digits.now) (length text) t
      go (inr t) = absurd (not_both g.good (bad_cut g.most text at x w (ltb-false (x.start + length x.number.digits.now) (length text) t)))

  pub bytes_last : get_or text (x.start + length x.number.digits.now) 0 ≡ newline → lemma_bytes text at ≡ []
  unfolding lemma_bytes clause_bytes
  bytes_last is = ap clause_bytes (last_none g.most text at x w byte_after is)

  module _ (other : get_or text (x.start + length x.number.digits.now) 0 ≡ newline → ⊥) where
    small : g.most < huge
    small = omega (arith, g.few)

    a_space : get_or text (x.start + length x.number.digits.now) 0 ≡ space
    a_space = go (bool_cases (eqb (get_or text (x.start + length x.number.digits.now) 0) space))
      where
        go : (eqb (get_or text (x.start + length x.number.digits.now) 0) space ≡ true) ⊎ (eqb (get_or text (x.start + length x.number.digits.now) 0) space ≡ false) → get_or text (x.start + length x.number.digits.now) 0 ≡ space
        go (inl t) = eqb-true (get_or text (x.start + length x.number.digits.now) 0) space t
        go (inr t) =
            absurd
            (not_both g.good (bad_other g.most text at x w byte_after other (eqb-false (get_or text (x.start + length x.number.digits.now) 0) space t)))

    some : length x.number.digits.now ≡ 0 → ⊥
    some e = not_both g.good (bad_empty g.most text at x w byte_after e)

    a_latch : between 1 g.most x.number.value ≡ true
    a_latch = go (bool_cases (between 1 g.most x.number.value))
      where
        go : (between 1 g.most x.number.value ≡ true) ⊎ (between 1 g.most x.number.value ≡ false) → between 1 g.most x.number.value ≡ true
        go (inl t) = t
        go (inr t) = absurd (not_both g.good (bad_latch g.most text at x w byte_after a_space some small t))

    value_low : 1 ≤ x.number.value
    unfolding between
    value_low = leb-true 1 x.number.value (and_left (leb 1 x.number.value) (leb x.number.value g.most) a_latch)

    value_high : x.number.value ≤ 32767
    unfolding between
    value_high =
        let most = leb-true x.number.value g.most (and_right (leb 1 x.number.value) (leb x.number.value g.most) a_latch) in
        omega (arith, most, g.few)

    literal_is : latch_literal (with_sign (minus_at text at) x.number.digits.now) ≡ literal_if (ltb at x.start) x.number.value
    unfolding worth
    literal_is =
        let value = value_below x.number (omega (arith, value_high)) in
        latch_literal_is (minus_at text at) x.number.digits.now (λ t. plain_span text at x w)
        ∙ ap₂ literal_if (sym (sign_before text at x w)) (sym value)

    pub literal_at : LiteralAt text at x
    unfolding lemma_bytes clause_bytes
    literal_at =
        record {
          low = value_low;
          high = value_high;
          next =
              record {
                most = g.most;
                few = g.few;
                good = sym (good_space g.most text at x w byte_after a_space some small a_latch) ∙ g.good;
              };
          bytes =
              ap clause_bytes (lemma_first g.most text at x w byte_after a_space)
              ∙ ap (λ (l : Literal). literal_bytes l ++ clause_bytes (lemma_at text ((x.start + length x.number.digits.now) + 1))) literal_is;
        }

-- ---- room for a literal

literal_length : (l : Literal) → length (literal_bytes l) ≡ 2
unfolding literal_bytes two
literal_length (pos v) = refl
literal_length (neg v) = refl

pub literal_room : (l : Literal) {out : Records} → HasRoom (literal_bytes l) out → out.end + 2 ≤ length out.bytes.now
literal_room l room = omega (arith, room.fits, literal_length l)
