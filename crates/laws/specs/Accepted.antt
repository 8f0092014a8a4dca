-- What an accepted file is: a chain of records of which none is refused, and what such a record keeps.
use Rattle.std.specs.Prelude.{ℕ, zero, suc, ◌+◌, ◌≤◌, ◌≡◌, refl, ◌⊎◌, Bool, true, false, not, ◌&&◌, ◌||◌, cond, List, [], ◌∷◌, length, ltb, eqb}
use Rattle.std.proofs.Common.{sym, subst, ◌∙◌, inl, inr, true≢false, ltb-false, eq-eqb, ne_eqb, arith}
use Rattle.std.proofs.Math.Option.{Option, none, some}
use Rattle.meaning.specs.Clauses.{any}
use Rattle.meaning.specs.Meaning.{Problem}
use Rattle.meaning.specs.File
use Rattle.meaning.specs.File.{Reader, Refusal, Rule, Span, Walked, refused, records, accepted, rejected, read, walked, walk, at_start, past, kind_at, row_at, body_at, body_length, body_literals, body_names, span_at, record_rules, first_wrong, kind_wrong, offends, two_at, unless_refused, unless_end, and_before, problem_of, reading_of, refuse_if, file_most}
use Rattle.laws.specs.Basics.{true_of_not, not_of_false}

pub refused_is_not_records : {r : Refusal} {ss : List Span} → refused r ≡ records ss → ⊥
refused_is_not_records e = let z : ◌≡◌ {A = ℕ} 0 1 = cc in omega arith

pub rejected_is_not_accepted : {r : Refusal} {p : Problem} → rejected r ≡ accepted p → ⊥
rejected_is_not_accepted e = let z : ◌≡◌ {A = ℕ} 0 1 = cc in omega arith

-- ss are the records from w on: none is refused, each is followed by the next, and the one of kind 6 by none
abbrev pub Chain : List ℕ → Reader → List Span → Type 0
Chain file w [] = ⊥
Chain file w (s ∷ ss) =
    (first_wrong (record_rules file w) ≡ none) × (s ≡ span_at file w)
    × (((eqb (kind_at file w) 6 ≡ true) × (ss ≡ []) × (length file ≤ (past file w).at))
    ⊎ ((eqb (kind_at file w) 6 ≡ false) × Chain file (past file w) ss))

-- what stands before a list of records is its first
and_before_records : (s : Span) (u : Walked) (ss : List Span) → and_before s u ≡ records ss
    → (rest : List Span) × (u ≡ records rest) × (ss ≡ s ∷ rest)
unfolding and_before
and_before_records s (refused r) ss e = absurd (refused_is_not_records e)
and_before_records s (records rest) ss e = (rest, refl, (cc))

at_end_records : (file : List ℕ) (at : ℕ) (ss : List Span) → File.at_end file at ≡ records ss
    → (ss ≡ []) × (length file ≤ at)
unfolding File.at_end
at_end_records file at ss e = go (ltb at (length file)) refl e
  where
    go : (b : Bool) → ltb at (length file) ≡ b → cond b (refused (record { number = 8; place = at })) (records []) ≡ records ss
        → (ss ≡ []) × (length file ≤ at)
    go true t h = absurd (refused_is_not_records h)
    go false t h = ((cc), ltb-false at (length file) t)

-- what follows a record that is not refused
after_record : (file : List ℕ) (w : Reader) (on : Reader → Walked) (rest : List Span)
    → ((w' : Reader) (ss : List Span) → on w' ≡ records ss → Chain file w' ss)
    → unless_end (eqb (kind_at file w) 6) on file w ≡ records rest
    → ((eqb (kind_at file w) 6 ≡ true) × (rest ≡ []) × (length file ≤ (past file w).at))
    ⊎ ((eqb (kind_at file w) 6 ≡ false) × Chain file (past file w) rest)
unfolding unless_end
after_record file w on rest on_chain e = go (eqb (kind_at file w) 6) refl e
  where
    go : (b : Bool) → eqb (kind_at file w) 6 ≡ b → unless_end b on file w ≡ records rest
        → ((eqb (kind_at file w) 6 ≡ true) × (rest ≡ []) × (length file ≤ (past file w).at))
        ⊎ ((eqb (kind_at file w) 6 ≡ false) × Chain file (past file w) rest)
    go true t h = let ends = at_end_records file (past file w).at rest h in inl (t, ends.0, ends.1)
    go false t h = inr (t, on_chain (past file w) rest h)

chain_of : (file : List ℕ) (w : Reader) (on : Reader → Walked) (ss : List Span)
    → ((w' : Reader) (ss' : List Span) → on w' ≡ records ss' → Chain file w' ss') → (o : Option Refusal)
    → first_wrong (record_rules file w) ≡ o → unless_refused o on file w ≡ records ss → Chain file w ss
unfolding unless_refused
chain_of file w on ss on_chain (some r) t h = absurd (refused_is_not_records h)
chain_of file w on ss on_chain none t h =
    let found = and_before_records (span_at file w) (unless_end (eqb (kind_at file w) 6) on file w) ss h in
    subst (λ (l : List Span). Chain file w l) (sym found.2)
    (t, refl, after_record file w on found.0 on_chain found.1)

pub walk_chain : (fuel : ℕ) (file : List ℕ) (w : Reader) (ss : List Span) → walk fuel file w ≡ records ss → Chain file w ss
unfolding walk
walk_chain zero file w ss e = absurd (refused_is_not_records e)
walk_chain (suc fuel) file w ss e =
    chain_of file w (walk fuel file) ss (λ w' ss' h. walk_chain fuel file w' ss' h) (first_wrong (record_rules file w)) refl e

-- the records of an accepted file
pub accepted_chain : (file : List ℕ) (p : Problem) → read file ≡ accepted p
    → (ss : List Span) × Chain file at_start ss × (p ≡ problem_of file ss) × (length file ≤ file_most)
unfolding read walked reading_of
accepted_chain file p e = go (walked file) refl e
  where
    not_long : (b : Bool) (ss : List Span) → ltb file_most (length file) ≡ b
        → cond b (refused (record { number = 1; place = 0 })) (walk (suc (length file)) file at_start) ≡ records ss
        → Chain file at_start ss × (length file ≤ file_most)
    not_long true ss t h = absurd (refused_is_not_records h)
    not_long false ss t h = (walk_chain (suc (length file)) file at_start ss h, ltb-false file_most (length file) t)

    go : (u : Walked) → walked file ≡ u → reading_of file u ≡ accepted p
        → (ss : List Span) × Chain file at_start ss × (p ≡ problem_of file ss) × (length file ≤ file_most)
    go (refused r) t h = absurd (rejected_is_not_accepted h)
    go (records ss) t h =
        let made = not_long (ltb file_most (length file)) ss refl t in (ss, made.0, (cc), made.1)

-- ---- what a record that is not refused keeps

pub rule_kept : (r : Rule) (rs : List Rule) → first_wrong (r ∷ rs) ≡ none → (r.wrong ≡ false) × (first_wrong rs ≡ none)
unfolding first_wrong refuse_if
rule_kept r rs e = go r.wrong refl e
  where
    go : (b : Bool) → r.wrong ≡ b → refuse_if b (record { number = r.number; place = r.place }) (first_wrong rs) ≡ none
        → (r.wrong ≡ false) × (first_wrong rs ≡ none)
    go true t h = let z : ◌≡◌ {A = ℕ} 0 1 = cc in absurd (omega arith)
    go false t h = (t, h)

-- every test of a record that is not refused failed
pub record Kept (file : List ℕ) (w : Reader) : Type 0 where
  pub head : File.head_short file w ≡ false
  pub kind : kind_wrong w.before (kind_at file w) ≡ false
  pub len : File.length_wrong (row_at file w) (body_length file w) ≡ false
  pub body : File.body_short file w ≡ false
  pub many : File.too_many (row_at file w) (File.same_kind file w) w.clauses ≡ false
  pub counts : File.counts_wrong (kind_at file w) (two_at file (body_at w)) (two_at file (body_at w + 2)) ≡ false
  pub body_literals : any (offends (body_names file w)) (body_literals file w) ≡ false

pub kept : (file : List ℕ) (w : Reader) → first_wrong (record_rules file w) ≡ none → Kept file w
unfolding record_rules File.rule_if
kept file w e =
    let a = rule_kept _ _ e in
    let b = rule_kept _ _ a.1 in
    let c = rule_kept _ _ b.1 in
    let d = rule_kept _ _ c.1 in
    let f = rule_kept _ _ d.1 in
    let g = rule_kept _ _ f.1 in
    let h = rule_kept _ _ g.1 in
    record { head = a.0; kind = b.0; len = c.0; body = d.0; many = f.0; counts = g.0; body_literals = h.0 }

pub or_false_left : (a b : Bool) → (a || b) ≡ false → a ≡ false
or_false_left true b h = h
or_false_left false b h = refl

pub or_false_right : (a b : Bool) → (a || b) ≡ false → b ≡ false
or_false_right true b h = absurd (true≢false h)
or_false_right false b h = h

-- kinds are 1..6 and never go down; the first record is of kind 1, and no other is
pub record KindKept (before kind : ℕ) : Type 0 where
  pub least : 1 ≤ kind
  pub most : kind ≤ 6
  pub rises : before ≤ kind
  pub not_again : (before ≡ 0 → ⊥) → eqb kind 1 ≡ false
  pub first : before ≡ 0 → eqb kind 1 ≡ true

and_false_right : (a b : Bool) → (a && b) ≡ false → a ≡ true → b ≡ false
and_false_right true b h t = h
and_false_right false b h t = absurd (true≢false (sym t))

pub kind_kept : (before kind : ℕ) → kind_wrong before kind ≡ false → KindKept before kind
unfolding kind_wrong
kind_kept before kind h =
    let low = ltb kind 1 in
    let high = ltb 6 kind in
    let down = ltb kind before in
    let again = eqb kind 1 && not (eqb before 0) in
    let late = eqb before 0 && not (eqb kind 1) in
    let h₄ = or_false_left (low || high || down || again) late h in
    let h₃ = or_false_left (low || high || down) again h₄ in
    let h₂ = or_false_left (low || high) down h₃ in
    record {
      least = ltb-false kind 1 (or_false_left low high h₂);
      most = ltb-false 6 kind (or_false_right low high h₂);
      rises = ltb-false kind before (or_false_right (low || high) down h₃);
      not_again = λ nonzero. second (eqb kind 1) (or_false_right (low || high || down) again h₄) (ne_eqb before 0 nonzero);
      first =
          λ zero_before.
          true_of_not (eqb kind 1)
          (and_false_right (eqb before 0) (not (eqb kind 1)) (or_false_right (low || high || down || again) late h)
          (eq-eqb before 0 zero_before));
    }
  where
    second : (b : Bool) → (b && not (eqb before 0)) ≡ false → eqb before 0 ≡ false → b ≡ false
    second true g t = absurd (true≢false (sym (not_of_false t) ∙ g))
    second false g t = refl
