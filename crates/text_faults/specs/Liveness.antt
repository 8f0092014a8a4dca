-- What 15 refuses: how many justice and fairness properties a circuit text has, by its header.
use Rattle.std.specs.Prelude.{ℕ, ◌≡◌, cond, List}
use Rattle.std.proofs.Common.{ap, ◌∙◌}
use Rattle.meaning.specs.Lines.{line_at}
use Rattle.meaning.specs.CircuitText.{Header, header_of}
use Rattle.lines.specs.Numbers.{capped}
use Rattle.circuit_text.specs.Header.{header_test}
use Rattle.text_faults.specs.declared.liveness.Liveness.{Liveness}

abbrev pub live : Header → Liveness
live h = record { justice = capped h.j; fairness = capped h.f }

-- none, where the header is not right
unfoldable pub liveness_of : List ℕ → Liveness
liveness_of text = cond (header_test text) (live (header_of (line_at text 0))) (record { justice = 0; fairness = 0 })

pub live_is : (h h' : Header) (j f : ℕ) → h ≡ h' → j ≡ capped h.j → f ≡ capped h.f
    → ◌≡◌ {A = Liveness} (record { justice = j; fairness = f }) (live h')
live_is h h' j f e ej ef =
    let fj = ej ∙ ap (λ (g : Header). capped g.j) e in
    let ff = ef ∙ ap (λ (g : Header). capped g.f) e in
    λ k. record { justice = fj k; fairness = ff k }
