-- Two texts that are accepted make a problem within the limits of problem files; written as a file, it reads back.
use Rattle.std.specs.Prelude.{ℕ, ◌≤◌, ◌≡◌, refl, ◌⊎◌, Bool, true, false, cond, List, length}
use Rattle.std.proofs.Common.{sym, ap, subst, ◌∙◌, inl, inr}
use Rattle.meaning.specs.Clauses.{Clause}
use Rattle.meaning.specs.Meaning.{Problem}
use Rattle.meaning.specs.File.{Refusal, accepted, rejected, read}
use Rattle.meaning.specs.Filed.{file_of}
use Rattle.meaning.specs.Circuit.{Circuit}
use Rattle.meaning.specs.Built.{built}
use Rattle.meaning.specs.CircuitText
use Rattle.meaning.specs.CircuitText.{Text, read_circuit_text}
use Rattle.meaning.specs.LemmaText
use Rattle.meaning.specs.LemmaText.{Lemmas, read_lemma_text}
use Rattle.meaning.specs.Circuits.{over_limits, has_liveness, refusal_13, refusal_14, refusal_15, on_lemmas, on_circuit, read_circuit}
use Rattle.laws.specs.Basics.{nonzero}
use Rattle.laws.specs.Accepted.{rejected_is_not_accepted}
use Rattle.filed.specs.Fits.{Fits}
use Rattle.filed.specs.ReadBack.{read_back}
use Rattle.circuit_laws.specs.Sane.{Sane}
use Rattle.circuit_laws.specs.ReadSane.{read_sane}
use Rattle.circuit_laws.specs.Limits.{InLimits, in_limits, built_most, built_fits}
use Rattle.circuit_laws.specs.LemmaRange.{lemmas_named}

-- what two texts are that are accepted as p: a circuit and its lemmas, within the limits, and p is built from them
pub record Texts (text lemma_text : List ℕ) (p : Problem) : Type 0 where
  pub circuit : Circuit
  pub lemmas : List Clause
  pub circuit_read : read_circuit_text text ≡ CircuitText.right circuit
  pub lemmas_read : read_lemma_text (length circuit.latches) lemma_text ≡ LemmaText.right lemmas
  pub no_liveness : has_liveness circuit ≡ false
  pub within : over_limits text lemma_text circuit lemmas ≡ false
  pub is_built : p ≡ built circuit lemmas

-- refused by a number that is not 0
abbrev pub Refused : List ℕ → List ℕ → Type 0
Refused text lemma_text = (r : Refusal) × (read_circuit text lemma_text ≡ rejected r) × (r.number ≡ 0 → ⊥)

abbrev pub Accepted : List ℕ → List ℕ → Type 0
Accepted text lemma_text = (p : Problem) × (read_circuit text lemma_text ≡ accepted p) × Texts text lemma_text p

-- how two texts are read
pub reading_cases : (text lemma_text : List ℕ) → Refused text lemma_text ⊎ Accepted text lemma_text
unfolding read_circuit on_circuit on_lemmas refusal_13 refusal_14 refusal_15
reading_cases text lemma_text = on_text (read_circuit_text text) refl
  where
    by_limits : (c : Circuit) (lemmas : List Clause) → read_circuit_text text ≡ CircuitText.right c
        → read_lemma_text (length c.latches) lemma_text ≡ LemmaText.right lemmas → (live over : Bool) → has_liveness c ≡ live
        → over_limits text lemma_text c lemmas ≡ over
        → read_circuit text lemma_text ≡ cond live refusal_15 (cond over refusal_14 (accepted (built c lemmas)))
        → Refused text lemma_text ⊎ Accepted text lemma_text
    by_limits c lemmas e f true over live g is = inl (record { number = 15; place = 0 }, is, nonzero 14)
    by_limits c lemmas e f false true live g is = inl (record { number = 14; place = 0 }, is, nonzero 13)
    by_limits c lemmas e f false false live g is =
        inr (
          built c lemmas,
          is,
          record {
            circuit = c;
            lemmas = lemmas;
            circuit_read = e;
            lemmas_read = f;
            no_liveness = live;
            within = g;
            is_built = refl;
          },
        )

    by_lemmas : (c : Circuit) → read_circuit_text text ≡ CircuitText.right c → (ls : Lemmas)
        → read_lemma_text (length c.latches) lemma_text ≡ ls → Refused text lemma_text ⊎ Accepted text lemma_text
    by_lemmas c e (LemmaText.wrong at) f =
        inl (record { number = 13; place = at }, ap (on_circuit text lemma_text) e ∙ ap (on_lemmas text lemma_text c) f, nonzero 12)
    by_lemmas c e (LemmaText.right lemmas) f =
        by_limits c lemmas e f (has_liveness c) (over_limits text lemma_text c lemmas) refl refl
        (ap (on_circuit text lemma_text) e ∙ ap (on_lemmas text lemma_text c) f)

    on_text : (t : Text) → read_circuit_text text ≡ t → Refused text lemma_text ⊎ Accepted text lemma_text
    on_text (CircuitText.wrong at) e = inl (record { number = 13; place = at }, ap (on_circuit text lemma_text) e, nonzero 12)
    on_text (CircuitText.right c) e = by_lemmas c e (read_lemma_text (length c.latches) lemma_text) refl

accepted_same : (p q : Problem) → accepted p ≡ accepted q → p ≡ q
accepted_same p q e = cc

module _ (text lemma_text : List ℕ) (p : Problem) (e : read_circuit text lemma_text ≡ accepted p) where
  pub accepted_texts : Texts text lemma_text p
  accepted_texts = go (reading_cases text lemma_text)
    where
      go : Refused text lemma_text ⊎ Accepted text lemma_text → Texts text lemma_text p
      go (inl (r, refused, number)) = absurd (rejected_is_not_accepted (sym refused ∙ e))
      go (inr (q, is, t)) = subst (Texts text lemma_text) (accepted_same q p (sym is ∙ e)) t

  -- within the limits, and the circuit is sane
  pub accepted_limits : InLimits text lemma_text accepted_texts.circuit accepted_texts.lemmas
  accepted_limits = in_limits text lemma_text accepted_texts.circuit accepted_texts.lemmas accepted_texts.within

  pub accepted_sane : Sane accepted_texts.circuit
  accepted_sane = read_sane text accepted_texts.circuit accepted_texts.circuit_read accepted_limits.text_few

  pub accepted_fits : Fits p × (length (file_of p) ≤ built_most)
  accepted_fits =
      let t = accepted_texts in
      subst (λ (q : Problem). Fits q × (length (file_of q) ≤ built_most)) (sym t.is_built)
      (built_fits text lemma_text t.circuit t.lemmas accepted_sane
      (lemmas_named (length t.circuit.latches) lemma_text t.lemmas t.lemmas_read) t.within)

  -- the file of an accepted circuit is read as the same problem
  pub circuit_read_back : read (file_of p) ≡ accepted p
  circuit_read_back = read_back p accepted_fits.0
