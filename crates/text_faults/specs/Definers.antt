-- The lines that define a variable, as far as lines start with a number: those of inputs and latches, and those of gates.
use Prim.Native.Nat.{ℕ, zero, suc, ◌+◌, ◌≤◌, ◌<◌, min}
use Rattle.std.specs.Prelude.{◌≡◌, refl, Bool, true, false, ◌||◌, cond, List, length, ltb, eqb}
use Rattle.std.proofs.Common.{sym, ◌∙◌, arith, lt-ltb, le-ltb}
use Rattle.std.proofs.Math.Path.{ap}
use Rattle.meaning.specs.Circuit.{var}
use Rattle.text_faults.specs.declared.sizes.Sizes.{Sizes}
use Rattle.text_faults.specs.declared.definers.Places.{Places}
use Rattle.text_faults.specs.Places.{after_line, skip, first_number}

-- past outputs, bad literals, constraints, counts, justice and fairness literals
unfoldable pub past_properties : List ℕ → Sizes → ℕ → ℕ
past_properties text s at =
    skip s.fairness text
    (skip s.justice text
    (skip s.counts text (skip s.constraints text (skip s.bads text (skip s.outputs text at)))))

-- where the lines of inputs (and after them of latches), of outputs and what follows them, of gates and of symbols start
unfoldable pub outputs_at : List ℕ → Sizes → ℕ → ℕ
outputs_at text s next = skip s.latches text (skip s.inputs text next)

unfoldable pub gates_at : List ℕ → Sizes → ℕ → ℕ
gates_at text s next = past_properties text s (outputs_at text s next)

unfoldable pub places_of : List ℕ → Sizes → ℕ → Places
places_of text s next =
    record {
      inputs = next;
      outputs = outputs_at text s next;
      gates = gates_at text s next;
      symbols = skip s.gates text (gates_at text s next);
    }

pub record Inside (text : List ℕ) (p : Places) : Type 0 where
  pub inputs : p.inputs ≤ length text
  pub outputs : p.outputs ≤ length text
  pub gates : p.gates ≤ length text
  pub symbols : p.symbols ≤ length text

-- The first line from a place on, and before another, whose first number has this variable; that other, where none has. Each line takes a byte
-- at least, so there are no more lines than bytes.
unfoldable pub definer : ℕ → List ℕ → ℕ → ℕ → ℕ → ℕ
definer zero text u from to = to
definer (suc most) text u from to =
    cond (ltb from to) (cond (eqb u (var (first_number text from))) from (definer most text u (after_line text from) to)) to

-- a constant, or a literal whose variable an input, a latch or a gate has
unfoldable pub known_here : List ℕ → Places → ℕ → Bool
known_here text p l =
    ltb l 2
    || (ltb (definer (length text) text (var l) p.inputs p.outputs) p.outputs
    || ltb (definer (length text) text (var l) p.gates p.symbols) p.symbols)

-- the first line before a place that defines this literal's variable; the place, where none does
abbrev pub earlier_by : List ℕ → Places → ℕ → ℕ → ℕ → ℕ → ℕ
earlier_by text p u at to found = cond (ltb found to) found (definer (length text) text u p.gates at)

unfoldable pub earlier : List ℕ → Places → ℕ → ℕ → ℕ
earlier text p l at =
    earlier_by text p (var l) at (min p.outputs at)
    (definer (length text) text (var l) p.inputs (min p.outputs at))

-- ---- laws of the walk

-- what is left to walk from a place on
pub record Walked (text : List ℕ) (u from to p : ℕ) : Type 0 where
  pub most : ℕ
  pub enough : length text ≤ most + p
  pub is : definer (length text) text u from to ≡ definer most text u p to

pub walk_start : (text : List ℕ) (u from to : ℕ) → Walked text u from to from
walk_start text u from to = record { most = length text; enough = omega arith; is = refl }

pub walk_done : {text : List ℕ} {u from to p : ℕ} → Walked text u from to p → (p < to → ⊥) → to ≡ definer (length text) text u from to
unfolding definer
walk_done {text} {u} {from} {to} {p} w h = sym (w.is ∙ go w.most)
  where
    go : (n : ℕ) → definer n text u p to ≡ to
    go zero = refl
    go (suc n) = let le : to ≤ p = omega (arith, h) in rw (le-ltb p to le)

module _ (text : List ℕ) (u from to p : ℕ) (w : Walked text u from to p) (h : p < to) (inside : to ≤ length text) (b : Bool)
    (tested : b ≡ eqb u (var (first_number text p))) where
  one_on : (n : ℕ) → length text ≤ n + p → (m : ℕ) × (length text ≤ suc m + p)
      × (definer n text u p to ≡ cond b p (definer m text u (after_line text p) to))
  unfolding definer
  one_on zero e = absurd (omega arith)
  one_on (suc m) e = (m, e, rw (lt-ltb p to h, tested))

  step : (m : ℕ) × (length text ≤ suc m + p) × (definer w.most text u p to ≡ cond b p (definer m text u (after_line text p) to))
  step = one_on w.most w.enough

  pub walk_found : b ≡ true → p ≡ definer (length text) text u from to
  walk_found e = sym (w.is ∙ step.2 ∙ ap (λ (t : Bool). cond t p (definer step.0 text u (after_line text p) to)) e)

  pub walk_on : b ≡ false → (q : ℕ) → q ≡ after_line text p → p < q → Walked text u from to q
  walk_on e q is more =
      record {
        most = step.0;
        enough = omega (arith, step.1);
        is =
            w.is
            ∙ step.2
            ∙ ap (λ (t : Bool). cond t p (definer step.0 text u (after_line text p) to)) e
            ∙ ap (λ (k : ℕ). definer step.0 text u k to) (sym is);
      }

-- ---- laws of the places, and of the first line that defines a variable

module _ (text : List ℕ) (p : Places) (l at to found : ℕ) (ends : to ≡ min p.outputs at)
    (is : found ≡ definer (length text) text (var l) p.inputs to) where
  earlier_is : earlier_by text p (var l) at to found ≡ earlier text p l at
  unfolding earlier
  earlier_is =
      let e = is ∙ ap (definer (length text) text (var l) p.inputs) ends in
      λ k. earlier_by text p (var l) at (ends k) (e k)

  pub earlier_first : found < to → found ≡ earlier text p l at
  earlier_first h = sym (rw (lt-ltb found to h)) ∙ earlier_is

  pub earlier_second : to ≤ found → (r : ℕ) → r ≡ definer (length text) text (var l) p.gates at → r ≡ earlier text p l at
  earlier_second h r e = e ∙ sym (rw (le-ltb found to h)) ∙ earlier_is
