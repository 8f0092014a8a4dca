-- The parts of a built problem's file, one behind another.
use Prim.Native.Nat.{ℕ, ◌+◌, ◌≤◌}
use Rattle.std.proofs.Common.{sym, ◌∙◌}
use Rattle.std.specs.Prelude.{◌≡◌, refl}
use Rattle.std.proofs.Math.Path.{ap, ap₂}
use mathlib.Core.List.{List, [], ◌∷◌, ◌++◌, append_assoc}
use Rattle.std.proofs.Math.ListN.{length}
use Rattle.meaning.specs.Clauses.{Clause}
use Rattle.meaning.specs.Meaning.{Problem}
use Rattle.meaning.specs.Circuit as Meant
use Rattle.meaning.specs.Circuit.{bad_literal}
use Rattle.meaning.specs.Built.{n_of, helpers, gates_clauses, latches_clauses, start_clauses, one_clauses, built}
use Rattle.meaning.specs.LemmaText.{read_lemma_text}
use Rattle.meaning.specs.Filed.{two, record_bytes, clause_records, file_of}
use Rattle.circuit_laws.specs.Numbers.{helper_count}
use Rattle.records.specs.declared.Records.{Records}
use Rattle.records.specs.Puts.{Puts, HasRoom, Left, left_all, left_is, left_done, left_room, left_more}
use Rattle.lemma_text.specs.Rest.{lemmas_of}
use Rattle.sections.specs.declared.find.Lines.{Lines}
use Rattle.sections.specs.declared.circuit.Circuit.{Circuit}
use Rattle.sections.specs.Whole.{circuit_at, latch_count, input_count, gate_count}
use Rattle.clause_count.specs.Bad.{OneBad, literals_of, bad_lines, bad_is}
use Rattle.clause_count.specs.Tally.{ones_append, constraints_are}
use Rattle.built.specs.Sections.{records_append}
use Rattle.built.specs.Cuts.{Three}

-- the problem that is built from a circuit as it stands in its text, and from a lemma text over its latches
abbrev pub problem_of : List ℕ → Circuit → List ℕ → Problem
problem_of text c lemmas = built (circuit_at text c) (lemmas_of (read_lemma_text c.latches.count lemmas))

-- its records of Tr, and of Bad
unfoldable pub tr_records : Meant.Circuit → List ℕ
tr_records c = clause_records 3 (gates_clauses c c.gates ++ (latches_clauses c 1 c.latches ++ one_clauses c c.constraints))

unfoldable pub bad_records : Meant.Circuit → List ℕ
bad_records c = clause_records 4 (gates_clauses c c.gates ++ one_clauses c (bad_literal c ∷ c.constraints))

-- three lists of clauses, one behind another
three_records : (kind : ℕ) (as' bs cs : List Clause)
    → clause_records kind (as' ++ (bs ++ cs)) ≡ clause_records kind as' ++ (clause_records kind bs ++ clause_records kind cs)
three_records kind as' bs cs =
    records_append kind as' (bs ++ cs) ∙ ap (λ (l : List ℕ). clause_records kind as' ++ l) (records_append kind bs cs)

module _ (text : List ℕ) (c : Circuit) where
  abbrev C : Meant.Circuit
  C = circuit_at text c

  -- the literals of the constraints
  abbrev constraints : List ℕ
  constraints = literals_of text c.properties.constraints

  pub tr_split : Three (tr_records C) (clause_records 3 (gates_clauses C C.gates))
      (clause_records 3 (latches_clauses C 1 C.latches)) (clause_records 3 (one_clauses C constraints))
  unfolding tr_records
  tr_split =
      record {
        is =
            three_records 3 (gates_clauses C C.gates) (latches_clauses C 1 C.latches) (one_clauses C C.constraints)
            ∙ ap
            (λ (ls : List ℕ). clause_records 3 (gates_clauses C C.gates)
            ++ (clause_records 3 (latches_clauses C 1 C.latches) ++ clause_records 3 (one_clauses C ls)))
            (constraints_are text c);
      }

  pub bad_split : OneBad c.properties → (s : Lines) → s ≡ bad_lines c.properties
      → Three (bad_records C) (clause_records 4 (gates_clauses C C.gates))
      (clause_records 4 (one_clauses C (literals_of text s))) (clause_records 4 (one_clauses C constraints))
  unfolding bad_records
  bad_split one s is =
      let bad = literals_of text s in
      record {
        is =
            ap (λ (ls : List ℕ). clause_records 4 (gates_clauses C C.gates ++ one_clauses C (ls ++ C.constraints))) (sym (ap (literals_of text) is ∙ bad_is text c one))
            ∙ ap (λ (ls : List ℕ). clause_records 4 (gates_clauses C C.gates ++ one_clauses C (bad ++ ls))) (constraints_are text c)
            ∙ ap (λ (cs : List Clause). clause_records 4 (gates_clauses C C.gates ++ cs)) (ones_append C bad constraints)
            ∙ three_records 4 (gates_clauses C C.gates) (one_clauses C bad) (one_clauses C constraints);
      }

-- ---- the first record, and the last

pub first_split : (n m : ℕ) → Three (record_bytes 1 (two n ++ two m)) (two 4 ++ two 1) (two n) (two m)
unfolding record_bytes two
first_split n m = record { is = refl }

pub two_room : (n : ℕ) {out : Records} → HasRoom (two n) out → out.end + 2 ≤ length out.bytes.now
unfolding two
two_room n room = room.fits

pub head_room : (len kind : ℕ) {out : Records} → HasRoom (two len ++ two kind) out → out.end + 4 ≤ length out.bytes.now
unfolding two
head_room len kind room = room.fits

pub end_is : two 0 ++ two 6 ≡ record_bytes 6 []
unfolding record_bytes two
end_is = refl

-- ---- the whole file

regroup : (a b c d e f : List ℕ) → a ++ b ++ c ++ d ++ e ++ f ≡ a ++ (b ++ (c ++ (d ++ (e ++ f))))
regroup a b c d e f = simp append_assoc

module _ (text : List ℕ) (c : Circuit) (lemmas : List Clause) where
  abbrev first : List ℕ
  first = record_bytes 1 (two c.latches.count ++ two (c.inputs.count + c.gates.count))

  abbrev starts : List ℕ
  starts = clause_records 2 (start_clauses 1 (circuit_at text c).latches)

  abbrev tr : List ℕ
  tr = tr_records (circuit_at text c)

  abbrev bad : List ℕ
  bad = bad_records (circuit_at text c)

  abbrev lemma : List ℕ
  lemma = clause_records 5 lemmas

  abbrev end : List ℕ
  end = record_bytes 6 []

  file_cut : file_of (built (circuit_at text c) lemmas) ≡ first ++ (starts ++ (tr ++ (bad ++ (lemma ++ end))))
  unfolding file_of built n_of tr_records bad_records
  file_cut =
      let n_is = latch_count text c in
      let m_is : length (helpers (circuit_at text c)) ≡ c.inputs.count + c.gates.count =
      helper_count (circuit_at text c) ∙ ap₂ ◌+◌ (input_count text c) (gate_count text c) in
      rw (n_is, m_is) (regroup first starts tr bad lemma end)

  module _ {r : Records} (room : HasRoom (file_of (built (circuit_at text c) lemmas)) r) where
    abbrev Rest : List ℕ → Records → Type 0
    Rest rest now = Left (file_of (built (circuit_at text c) lemmas)) r rest now

    start : Rest (first ++ (starts ++ (tr ++ (bad ++ (lemma ++ end))))) r
    start = left_is (left_all room) file_cut

    pub first_room : HasRoom first r
    first_room = left_room first (starts ++ (tr ++ (bad ++ (lemma ++ end)))) start

    module _ {r₁ : Records} (w₁ : Puts first r r₁) where
      after_first : Rest (starts ++ (tr ++ (bad ++ (lemma ++ end)))) r₁
      after_first = left_more first (starts ++ (tr ++ (bad ++ (lemma ++ end)))) start w₁

      pub starts_room : HasRoom starts r₁
      starts_room = left_room starts (tr ++ (bad ++ (lemma ++ end))) after_first

      module _ {r₂ : Records} (w₂ : Puts starts r₁ r₂) where
        after_starts : Rest (tr ++ (bad ++ (lemma ++ end))) r₂
        after_starts = left_more starts (tr ++ (bad ++ (lemma ++ end))) after_first w₂

        pub tr_room : HasRoom tr r₂
        tr_room = left_room tr (bad ++ (lemma ++ end)) after_starts

        module _ {r₃ : Records} (w₃ : Puts tr r₂ r₃) where
          after_tr : Rest (bad ++ (lemma ++ end)) r₃
          after_tr = left_more tr (bad ++ (lemma ++ end)) after_starts w₃

          pub bad_room : HasRoom bad r₃
          bad_room = left_room bad (lemma ++ end) after_tr

          module _ {r₄ : Records} (w₄ : Puts bad r₃ r₄) where
            after_bad : Rest (lemma ++ end) r₄
            after_bad = left_more bad (lemma ++ end) after_tr w₄

            pub lemmas_room : HasRoom lemma r₄
            lemmas_room = left_room lemma end after_bad

            module _ {r₅ : Records} (w₅ : Puts lemma r₄ r₅) where
              after_lemmas : Rest end r₅
              after_lemmas = left_more lemma end after_bad w₅

              pub end_room : HasRoom end r₅
              end_room = after_lemmas.room

              pub file_written : {r₆ : Records} → Puts end r₅ r₆ → Puts (file_of (built (circuit_at text c) lemmas)) r r₆
              file_written w₆ = left_done after_lemmas w₆
