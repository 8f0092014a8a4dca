-- The clauses of a question as they stand in a file, and how a pass over them ends.
use Prim.Native.Nat.{ℕ, ◌+◌, ◌-◌, ◌≤◌, ◌<◌}
use native.Mathlib.Nat.{pos_of_ne-zero}
use native.Mathlib.Omega.{arith}
use mathlib.Core.Path.{◌≡◌, refl, sym, ap, ◌∙◌, subst}
use mathlib.Core.Logic.{◌⊎◌, inl, inr}
use mathlib.Core.Bool.{Bool}
use mathlib.Core.List.{List, ◌++◌, map}
use lib.ListN.{length}
use Rattle.std.specs.Prelude.{Ok, Err}
use Rattle.meaning.specs.Clauses.{Literal, Clause, variable, negation}
use Rattle.meaning.specs.Meaning.{at_marks}
use Rattle.meaning.specs.File.{literals}
use Rattle.meaning.specs.Search.{Setting, with_literal, Ending, lost, then_false}
use Rattle.meaning.specs.Rules.{denied, next, answer}
use Rattle.laws.specs.Within.{UpTo, Within}
use Rattle.laws.specs.Range.{of_append}
use Rattle.laws.specs.Marked.{marks_within}
use Rattle.laws.specs.Questions.{denied_within}
use Rattle.laws.specs.Setting.{length_with}
use Rattle.laws.specs.SearchRight.{never_lost}
use Rattle.format.specs.Section.{section}
use Rattle.format.specs.declared.Literal.{Literal as Held}
use Rattle.search.specs.declared.Parts.{Parts}
use Rattle.passes.specs.declared.Tally.{Tally}
use Rattle.passes.specs.declared.Tally.TheVariants.{Satisfied, Try, Forced, Closed}
use Rattle.search.specs.declared.Answer.TheVariants.{Yes, No}
use Rattle.passes.specs.Forms.{entries, tally_at}
use Rattle.passes.proofs.EntryLaws.{entries_length}
use Rattle.passes.specs.Sweep.{Pass, passed, try, sweep}
use Rattle.search.specs.Forms.{Found, yes_or_no, bounded, later, ended_by}
use Rattle.search.specs.Places.{Sound, parts_clauses}
use Rattle.search.specs.declared.clauses.Clauses.{Clauses}
use Rattle.search.specs.Engine.{clauses_of, search_at, tried, Ready}
use Rattle.search.proofs.BudgetLaws.{under, none_left, first_ends, second_wanted, second_room, second_ends}
use Rattle.passes.proofs.PassLaws.{sweep_append}
use Rattle.search.proofs.SweepLaws.{Turned}

module _ (file : List ℕ) (on : List Bool) (q : Parts) where
  abbrev first : List Clause
  first = section file q.first.at q.first.count

  abbrev lemmas : List Clause
  lemmas = at_marks on (section file q.lemmas.at q.lemmas.count)

  abbrev last : List Clause
  last = section file q.last.at q.last.count

  abbrev deny : List Clause
  deny = denied (map (next q.added) (literals file q.denied.at q.denied.count))

  pub parts_within : Sound file q → Within 512 (parts_clauses file on q)
  unfolding parts_clauses
  parts_within s =
      of_append (UpTo 512) first (lemmas ++ (last ++ deny)) s.first.within
      (of_append (UpTo 512) lemmas (last ++ deny)
      (marks_within 512 on (section file q.lemmas.at q.lemmas.count) s.lemmas.within)
      (of_append (UpTo 512) last deny s.last.within
      (denied_within 512 (map (next q.added) (literals file q.denied.at q.denied.count)) s.deny.within)))

  -- one part after another
  pub parts_swept : (p a b c d : Pass) → a ≡ sweep first p → b ≡ sweep lemmas a → c ≡ sweep last b → d ≡ sweep deny c
      → d ≡ sweep (parts_clauses file on q) p
  unfolding parts_clauses
  parts_swept p a b c d ea eb ec ed =
      ed ∙ ap (sweep deny) (ec ∙ ap (sweep last) (eb ∙ ap (sweep lemmas) ea))
      ∙ sym (sweep_append first (lemmas ++ (last ++ deny)) p
      ∙ sweep_append lemmas (last ++ deny) (sweep first p)
      ∙ sweep_append last deny (sweep lemmas (sweep first p)))

pub clauses_within : (q : Clauses) → Within 512 (clauses_of q)
clauses_within q = parts_within q.file.now q.on.now q.parts q.sound

-- a pass that forced no literal is ready
pub turned_ready : (cs : List Clause) (v u : Setting) (n : Tally) → (n ≡ Forced → ⊥) → Turned cs v (tally_at n u) → Ready cs v (tally_at n u)
turned_ready cs v u Satisfied h t = t
turned_ready cs v u (Try l) h t = t
turned_ready cs v u Closed h t = t
turned_ready cs v u Forced h t = absurd (h refl)

-- where nothing is left to try, the search has ended
pub ready_ended : (cs : List Clause) (v u : Setting) (left : ℕ) (n : Tally) → ((l : Held) → n ≡ Try l → ⊥) → Ready cs v (tally_at n u)
    → Ok (ended_by n) ≡ bounded left (answer (search_at cs v))
unfolding answer yes_or_no
ready_ended cs v u left Satisfied h r = sym (ap (λ (e : Ending). bounded left (answer e)) r ∙ under left _ (omega arith))
ready_ended cs v u left Closed h r = sym (ap (λ (e : Ending). bounded left (answer e)) r ∙ under left _ (omega arith))
ready_ended cs v u left Forced h r = absurd r
ready_ended cs v u left (Try l) h r = absurd (h l refl)

-- an answer that is no `No`
pub not_no : (f : Found) → ((e : ℕ) × (f ≡ Ok (Yes e))) ⊎ (f ≡ Err (record {})) → (d : ℕ) → f ≡ Ok (No d) → ⊥
not_no f (inl (e, same)) d x = cc
not_no f (inr same) d x = cc

-- the entries of a setting
pub entries_sized : (xs : List ℕ) → length xs ≡ 513 → length (entries xs) ≡ 513
entries_sized xs h = entries_length xs ∙ h

-- a literal to try at u, where the search from v stands
pub record Trying (cs : List Clause) (v u : Setting) (l : Literal) : Type 0 where
  pub within : Within 512 cs
  pub sized : length v ≡ 513
  pub ready : Ready cs v (passed u (try l))

-- rule (d) there, within a budget
module _ {cs : List Clause} {v u : Setting} {l : Literal} (at : Trying cs v u l) where
  pub try_sized : (m : Literal) → length (with_literal u m) ≡ 513
  try_sized m = length_with u m ∙ at.ready.4 ∙ at.sized

  true_found : search_at cs (with_literal u l) ≡ lost → ⊥
  unfolding search_at
  true_found = never_lost 512 cs at.within (with_literal u l) (try_sized l)

  false_found : search_at cs (with_literal u (negation l)) ≡ lost → ⊥
  unfolding search_at
  false_found = never_lost 512 cs at.within (with_literal u (negation l)) (try_sized (negation l))

  as_tried : (left : ℕ) → bounded left (answer (then_false (search_at cs) u l (search_at cs (with_literal u l)))) ≡ bounded left (answer (search_at cs v))
  unfolding tried
  as_tried left = ap (λ (e : Ending). bounded left (answer e)) (sym at.ready.0)

  pub try_range : variable l < 513
  try_range = subst (λ (k : ℕ). variable l < k) (at.ready.4 ∙ at.sized) at.ready.1

  pub try_spent : {left : ℕ} → left ≡ 0 → Err (record {}) ≡ bounded left (answer (search_at cs v))
  try_spent {left} z = none_left (search_at cs) u l (search_at cs (with_literal u l)) true_found false_found left z ∙ as_tried left

  -- the first try, from w
  module _ {left : ℕ} {f : Found} {w : Setting} (some_left : left ≡ 0 → ⊥) (is : w ≡ with_literal u l)
      (told : f ≡ bounded (left - 1) (answer (search_at cs w)))
    where
      here : f ≡ bounded (left - 1) (answer (search_at cs (with_literal u l)))
      here = told ∙ ap (λ (x : Setting). bounded (left - 1) (answer (search_at cs x))) is

      pub try_first : ((d : ℕ) → f ≡ Ok (No d) → ⊥) → later 1 f ≡ bounded left (answer (search_at cs v))
      try_first h =
          first_ends (search_at cs) u l (search_at cs (with_literal u l)) true_found false_found left f (pos_of_ne-zero some_left) here h
          ∙ as_tried left

      module _ {used : ℕ} (no : f ≡ Ok (No used)) where
        pub try_wanted : left - 1 ≡ used → Err (record {}) ≡ bounded left (answer (search_at cs v))
        try_wanted h =
            second_wanted (search_at cs) u l (search_at cs (with_literal u l)) true_found false_found left used f (pos_of_ne-zero some_left)
            here no h
            ∙ as_tried left

        module _ (more_left : left - 1 ≡ used → ⊥) where
          pub try_room : 2 + used ≤ left
          try_room =
              second_room (search_at cs) u l (search_at cs (with_literal u l)) true_found false_found left used f (pos_of_ne-zero some_left)
              here no more_left

          -- the second try, from x
          pub try_second : {g : Found} {x : Setting} {m : Literal} → m ≡ negation l → x ≡ with_literal u m
              → g ≡ bounded (left - 2 - used) (answer (search_at cs x)) → later (used + 2) g ≡ bounded left (answer (search_at cs v))
          try_second {g} m_is x_is second =
              second_ends (search_at cs) u l (search_at cs (with_literal u l)) true_found false_found left used f g try_room here no
              (second ∙ ap (λ (y : Setting). bounded (left - 2 - used) (answer (search_at cs y))) (x_is ∙ ap (with_literal u) m_is))
              ∙ as_tried left
