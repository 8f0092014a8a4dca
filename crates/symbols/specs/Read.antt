-- Symbol lines as far as they are read: all up to here are right, and what is left decides.
use Rattle.std.specs.Prelude.{ℕ, ◌+◌, ◌≤◌, ◌<◌, ◌≡◌, Bool, true, false, List, [], ◌∷◌, ◌++◌, length, Result, Ok, Err}
use Rattle.std.proofs.Common.{◌∙◌}
use Rattle.std.proofs.Math.Path.{refl, sym, ap, subst}
use Rattle.std.proofs.Math.Option.{Option}
use Rattle.meaning.specs.Lines.{line_at, ended, next_line}
use Rattle.meaning.specs.CircuitText.{Symbol, symbol_of, symbol_right, begins_comment, symbols_fault}
use Rattle.symbols.specs.declared.Counts.{Counts}
use Rattle.lines.specs.declared.fault.Fault.{Fault}
use Rattle.lines.specs.Faults.{fault_of}
use Rattle.symbols.specs.Symbols.{header_from, Small, LineTo, Earlier, Listed}
use Rattle.symbols.specs.Walk.{no_more, not_closed, comment_here, wrong_here, right_here, next_is}
use Rattle.symbols.specs.Before.{earlier_more, is_named, form_right}

unfoldable pub fault_with : List ℕ → Counts → Bool → List Symbol → ℕ → Option ℕ
fault_with text counts judged before at = symbols_fault (length text) judged (header_from counts) text before at

-- no line from `at` to p is at fault
pub record Read (text : List ℕ) (counts : Counts) (judged : Bool) (at p : ℕ) : Type 0 where
  pub listed : Listed text at p
  pub left : fault_with text counts judged [] at ≡ fault_with text counts judged listed.before p
  pub inside : p ≤ length text

module _ (text : List ℕ) (counts : Counts) (judged : Bool) (at : ℕ) where
  -- the answer
  abbrev Whole : Result (Unit {0}) Fault
  Whole = fault_of (symbols_fault (length text) judged (header_from counts) text [] at)

  pub read_none : at ≤ length text → Read text counts judged at at
  unfolding Earlier
  read_none inside = record { listed = record { before = []; earlier = refl }; left = refl; inside = inside }

  module _ (p : ℕ) (read : Read text counts judged at p) where
    pub read_all : length text ≤ p → Ok tt ≡ Whole
    unfolding fault_with fault_of
    read_all past =
        sym (ap fault_of (read.left ∙ no_more judged (header_from counts) text (length text) read.listed.before p past))

    module _ (more : p < length text) where
      pub cut_here : false ≡ ended text p → Err (record { at = p }) ≡ Whole
      unfolding fault_with fault_of
      cut_here open_here =
          sym
          (ap fault_of (read.left ∙ not_closed judged (header_from counts) text read.listed.before p more (sym open_here)))

      module _ (closed : true ≡ ended text p) where
        pub comment_ends : true ≡ begins_comment (line_at text p) → Ok tt ≡ Whole
        unfolding fault_with fault_of
        comment_ends is =
            sym
            (ap fault_of
            (read.left
            ∙ comment_here judged (header_from counts) text read.listed.before p more (sym closed) (sym is)))

        -- a line of another kind, judged
        module _ (other : false ≡ begins_comment (line_at text p)) (right : Bool)
            (is : (before : List Symbol) → Earlier text at before p → right ≡ symbol_right judged (header_from counts) before (line_at text p)) where
          here : right ≡ symbol_right judged (header_from counts) read.listed.before (line_at text p)
          here = is read.listed.before read.listed.earlier

          pub wrong_line : right ≡ false → Err (record { at = p }) ≡ Whole
          unfolding fault_with fault_of
          wrong_line wrong =
              sym
              (ap fault_of
              (read.left
              ∙ wrong_here judged (header_from counts) text read.listed.before p more (sym closed) (sym other) (sym here ∙ wrong)))

          pub read_more : right ≡ true → Small counts → (next : ℕ) → next_line text p ≡ next → next ≤ length text
              → Read text counts judged at next
          unfolding fault_with
          read_more good small next next_is inside =
              let form = form_right judged (header_from counts) read.listed.before (line_at text p) (sym good ∙ here) in
              let named = is_named text p counts more small (sym closed) form in
              record {
                listed = record {
                  before = read.listed.before ++ (symbol_of (line_at text p) ∷ []);
                  earlier =
                      subst (Earlier text at (read.listed.before ++ (symbol_of (line_at text p) ∷ []))) next_is
                      (earlier_more text at read.listed.before p read.listed.earlier named);
                };
                left =
                    read.left
                    ∙ right_here judged (header_from counts) text read.listed.before p more (sym closed) (sym other) (sym here ∙ good)
                    ∙ ap (fault_with text counts judged (read.listed.before ++ (symbol_of (line_at text p) ∷ []))) next_is;
                inside = inside;
              }

-- ---- a line is taken for the one that stands at a place

module _ {lent text : List ℕ} {start p : ℕ} (text_is : lent ≡ text) (place_is : start ≡ p) where
  pub same_line : line_at lent start ≡ line_at text p
  same_line = λ k. line_at (text_is k) (place_is k)

  pub same_next : (end : ℕ) → LineTo lent start end → next_line text p ≡ end + 1
  same_next end line = sym (λ k. next_line (text_is k) (place_is k)) ∙ next_is lent start end line

  pub right_there : (judged right : Bool) (counts : Counts) (at : ℕ)
      → ((before : List Symbol) → Earlier lent at before start
      → right ≡ symbol_right judged (header_from counts) before (line_at lent start))
      → (before : List Symbol) → Earlier text at before p → right ≡ symbol_right judged (header_from counts) before (line_at text p)
  right_there judged right counts at is before h =
      is before (subst (λ (t : List ℕ). Earlier t at before start) (sym text_is) (subst (Earlier text at before) (sym place_is) h))
      ∙ ap (symbol_right judged (header_from counts) before) same_line
