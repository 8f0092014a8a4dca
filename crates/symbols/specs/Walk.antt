-- The walk of symbol lines: its fuel, what it takes of the header, and its steps.
use Prim.Native.Nat.{ℕ, zero, suc, ◌+◌, ◌≤◌, ◌<◌}
use Rattle.std.proofs.Common.{arith, ◌∙◌}
use Rattle.std.specs.Prelude.{◌≡◌, Bool, true, false, ◌&&◌, List, [], ◌∷◌, ◌++◌}
use Rattle.std.proofs.Math.Path.{refl, sym, ap}
use Rattle.std.proofs.Math.Bool.{not}
use Rattle.std.proofs.Math.Option.{Option, none, some}
use Rattle.std.proofs.Math.ListN.{length}
use Rattle.std.proofs.Math.Dec.{ltb, leb}
use borrow.Author.Tests.{le-leb, lt-leb, lt-ltb, le-ltb}
use Rattle.meaning.specs.Clauses.{any}
use Rattle.meaning.specs.Lines.{line_at, ended, next_line, is_number}
use Rattle.meaning.specs.CircuitText.{Header, Symbol, positions, symbol_digits, symbol_of, same_symbol, symbol_right, begins_comment, unless_done, fault_unless, symbols_fault}
use Rattle.symbols.specs.declared.Counts.{Counts}
use Rattle.symbols.specs.Symbols.{header_from, LineTo}

-- ---- what it takes of the header

-- the counts are those of a header
pub record CountsOf (h : Header) (counts : Counts) : Type 0 where
  pub i : h.i ≡ counts.i
  pub l : h.l ≡ counts.l
  pub o : h.o ≡ counts.o
  pub b : h.b ≡ counts.b
  pub c : h.c ≡ counts.c
  pub j : h.j ≡ counts.j
  pub f : h.f ≡ counts.f

module _ (h : Header) (counts : Counts) (same : CountsOf h counts) where
  positions_from : (letter : ℕ) → positions h letter ≡ positions (header_from counts) letter
  unfolding positions header_from
  positions_from letter = rw (same.i, same.l, same.o, same.b, same.c, same.j, same.f)

  right_from : (judged : Bool) (before : List Symbol) (line : List ℕ)
      → symbol_right judged h before line ≡ symbol_right judged (header_from counts) before line
  unfolding symbol_right
  right_from judged before line =
      ap
      (λ (n : ℕ). is_number (symbol_digits line) && ltb (symbol_of line).at n
      && leb (length (symbol_digits line) + 3) (length line) && not (judged && any (same_symbol (symbol_of line)) before))
      (positions_from (symbol_of line).letter)

  -- it depends on the header only through how many there are to name
  pub fault_from : (n : ℕ) (judged : Bool) (text : List ℕ) (before : List Symbol) (at : ℕ)
      → symbols_fault n judged h text before at ≡ symbols_fault n judged (header_from counts) text before at
  unfolding symbols_fault
  fault_from zero judged text before at = refl
  fault_from (suc n) judged text before at =
      let line = line_at text at in
      let more = before ++ (symbol_of line ∷ []) in
      let on = fault_from n judged text more (next_line text at) in
      ap
      (λ (b : Bool). unless_done (leb (length text) at) (fault_unless (ended text at) at
      (unless_done (begins_comment line) (fault_unless b at (symbols_fault n judged h text more (next_line text at))))))
      (right_from judged before line)
      ∙ ap
      (λ (r : Option ℕ). unless_done (leb (length text) at) (fault_unless (ended text at) at
      (unless_done (begins_comment line) (fault_unless (symbol_right judged (header_from counts) before line) at r))))
      on

-- ---- its fuel: each line takes a byte at least

module _ (judged : Bool) (h : Header) (text : List ℕ) where
  pub no_more : (n : ℕ) (before : List Symbol) (at : ℕ) → length text ≤ at → symbols_fault n judged h text before at ≡ none
  unfolding symbols_fault unless_done
  no_more zero before at past = refl
  no_more (suc n) before at past = rw (le-leb (length text) at past)

  -- as many as there are bytes left are enough
  pub fuel_enough : (n m : ℕ) (before : List Symbol) (at : ℕ) → length text ≤ n + at → length text ≤ m + at
      → symbols_fault n judged h text before at ≡ symbols_fault m judged h text before at
  unfolding symbols_fault next_line
  fuel_enough zero m before at p q = sym (no_more m before at (omega arith))
  fuel_enough (suc n) zero before at p q = no_more (suc n) before at (omega arith)
  fuel_enough (suc n) (suc m) before at p q =
      let line = line_at text at in
      ap
      (λ (r : Option ℕ). unless_done (leb (length text) at) (fault_unless (ended text at) at
      (unless_done (begins_comment line) (fault_unless (symbol_right judged h before line) at r))))
      (fuel_enough n m (before ++ (symbol_of line ∷ [])) (suc (at + length line)) (omega arith) (omega arith))

  -- ---- its steps

  module _ (before : List Symbol) (at : ℕ) (inside : at < length text) where
    abbrev fault_here : Option ℕ
    fault_here = symbols_fault (length text) judged h text before at

    abbrev fault_after : Option ℕ
    fault_after = symbols_fault (length text) judged h text (before ++ (symbol_of (line_at text at) ∷ [])) (next_line text at)

    one_line : fault_here ≡ fault_unless (ended text at) at
        (unless_done (begins_comment (line_at text at)) (fault_unless (symbol_right judged h before (line_at text at)) at fault_after))
    unfolding symbols_fault unless_done
    one_line =
        fuel_enough (length text) (suc (length text)) before at (omega arith) (omega arith) ∙ rw (lt-leb (length text) at inside)

    pub not_closed : ended text at ≡ false → fault_here ≡ some at
    unfolding fault_unless
    not_closed e = one_line ∙ rw e

    module _ (e : ended text at ≡ true) where
      pub comment_here : begins_comment (line_at text at) ≡ true → fault_here ≡ none
      unfolding fault_unless unless_done
      comment_here c = one_line ∙ rw (e, c)

      module _ (c : begins_comment (line_at text at) ≡ false) where
        pub wrong_here : symbol_right judged h before (line_at text at) ≡ false → fault_here ≡ some at
        unfolding fault_unless unless_done
        wrong_here r = one_line ∙ rw (e, c, r)

        pub right_here : symbol_right judged h before (line_at text at) ≡ true → fault_here ≡ fault_after
        unfolding fault_unless unless_done
        right_here r = one_line ∙ rw (e, c, r)

-- ---- where a line ends

module _ (text : List ℕ) (at end : ℕ) (line : LineTo text at end) where
  pub is_closed : end < length text → ended text at ≡ true
  unfolding ended
  is_closed h = ap (λ (k : ℕ). ltb k (length text)) (sym line.is) ∙ lt-ltb end (length text) h

  pub is_open : length text ≤ end → ended text at ≡ false
  unfolding ended
  is_open h = ap (λ (k : ℕ). ltb k (length text)) (sym line.is) ∙ le-ltb end (length text) h

  pub next_is : next_line text at ≡ end + 1
  unfolding next_line
  next_is = omega (arith, line.is)

-- the newline is found, or the text has ended
pub ends_here : (text : List ℕ) (at p : ℕ) → next_line text at ≡ next_line text p → length (line_at text p) ≡ 0 → p ≤ length text
    → LineTo text at p
unfolding next_line
ends_here text at p same empty inside = record { is = omega (arith, same, empty); inside = inside }
