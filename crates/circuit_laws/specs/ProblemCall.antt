-- The problem file that a call writes: read back, it is the problem of the two texts.
use Rattle.std.specs.Prelude.{ℕ, ◌≡◌, ◌⊎◌, Bool, true, false, cond, List, ◌++◌, length, take, drop, ltb}
use Rattle.std.proofs.Common.{ap, subst, ◌∙◌, inl, inr}
use Rattle.std.proofs.Math.Seq.{take-append_seam}
use Rattle.meaning.specs.Meaning.{Problem, k}
use Rattle.meaning.specs.File.{Reading, accepted, read}
use Rattle.meaning.specs.Filed.{file_of}
use Rattle.meaning.specs.Calls.{Outcome, refusal, on_reading}
use Rattle.meaning.specs.Demands.{Answered}
use Rattle.meaning.specs.Circuits.{read_circuit, problem_job, circuit_problem_call}
use Rattle.laws.specs.Basics.{nonzero}
use Rattle.circuit_laws.specs.AcceptedTexts.{Refused, Accepted, reading_cases, circuit_read_back}

-- the bytes that a call leaves, as many as it says
unfoldable pub file_left : Outcome → List ℕ
file_left o = take o.report.rows o.lent

-- the file that an answered call leaves
left_of : (p : Problem) (lent : List ℕ) → Answered (problem_job p lent) → file_left (problem_job p lent) ≡ file_of p
unfolding problem_job refusal file_left
left_of p lent h = go (ltb (length lent) (length (file_of p))) h
  where
    Made : Bool → Outcome
    Made short =
        cond short (refusal 12 0 0 0 lent)
        (record {
          report = record { number = 0; place = 0; decisions = 0; rows = length (file_of p); n = p.n; m = p.m; k = k p };
          lent = file_of p ++ drop (length (file_of p)) lent;
        })

    go : (short : Bool) → Answered (Made short) → take (Made short).report.rows (Made short).lent ≡ file_of p
    go true e = absurd (nonzero 11 e)
    go false e = take-append_seam (file_of p) (drop (length (file_of p)) lent)

-- Reading it back gives the problem.
pub problem_reads_back : (text lemma_text : List ℕ) (budget : ℕ) (lent : List ℕ) → Answered (circuit_problem_call text lemma_text budget lent)
    → (p : Problem) × (read_circuit text lemma_text ≡ accepted p)
    × (read (file_left (circuit_problem_call text lemma_text budget lent)) ≡ accepted p)
unfolding circuit_problem_call on_reading refusal
problem_reads_back text lemma_text budget lent h = go (reading_cases text lemma_text)
  where
    go : Refused text lemma_text ⊎ Accepted text lemma_text
        → (p : Problem) × (read_circuit text lemma_text ≡ accepted p)
        × (read (file_left (on_reading (read_circuit text lemma_text) problem_job lent)) ≡ accepted p)
    go (inl (r, is, some)) = absurd (some (subst (λ (x : Reading). Answered (on_reading x problem_job lent)) is h))
    go (inr (p, is, texts)) = (
      p,
      is,
      ap (λ (x : Reading). read (file_left (on_reading x problem_job lent))) is
          ∙ ap read (left_of p lent (subst (λ (x : Reading). Answered (on_reading x problem_job lent)) is h))
          ∙ circuit_read_back text lemma_text p is,
    )
