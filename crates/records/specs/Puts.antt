-- Records written one part behind another, and the laws by which the parts follow each other.
use Rattle.std.specs.Borrow.{MutBor}
use Rattle.std.specs.Prelude.{ℕ, ◌+◌, ◌≤◌, ◌≡◌, refl, List, [], ◌++◌, length}
use Rattle.std.proofs.Common.{arith, sym, ap, subst, ◌∙◌, length-append}
use Rattle.records.specs.Put.{put, put_none, put_put, length_put}
use Rattle.records.specs.declared.Records.{Records}

-- a part is written where the next one goes, the other bytes stay, and the slice is the one that was lent
pub record Puts (part : List ℕ) (before after : Records) : Type 0 where
  pub end : after.end ≡ before.end + length part
  pub made : after.bytes.now ≡ put before.end part before.bytes.now
  pub lent : after.bytes.ghost_name ≡ before.bytes.ghost_name

-- there is room for a part
pub record HasRoom (part : List ℕ) (r : Records) : Type 0 where
  pub fits : r.end + length part ≤ length r.bytes.now

-- a slice is lent, and nothing is written yet
pub record Fresh (out : MutBor (List ℕ)) (r : Records) : Type 0 where
  pub bytes : r.bytes.now ≡ out.now
  pub end : r.end ≡ 0
  pub lent : r.bytes.ghost_name ≡ out.ghost_name

module _ {out : MutBor (List ℕ)} {r : Records} (fresh : Fresh out r) where
  pub fresh_room : {part : List ℕ} → length part ≤ length out.now → HasRoom part r
  fresh_room fits = record { fits = omega (arith, fits, fresh.end, ap length fresh.bytes) }

  -- what is written from the start on is what then stands in the slice that was lent
  pub fresh_out : {part now : List ℕ} {after : Records} → Puts part r after → after.bytes.now ≡ now
      → (after.end ≡ length part) × (now ≡ put 0 part out.now)
  fresh_out {part} w is = (
    omega (arith, w.end, fresh.end),
    sym is ∙ w.made ∙ ap (λ (k : ℕ). put k part r.bytes.now) fresh.end ∙ ap (put 0 part) fresh.bytes,
  )

-- nothing is written
pub puts_none : (r : Records) → Puts [] r r
puts_none r = record { end = omega arith; made = sym (put_none r.end r.bytes.now); lent = refl }

-- a part by another name
pub puts_is : {a b : List ℕ} {r s : Records} → a ≡ b → Puts a r s → Puts b r s
puts_is {r = r} {s = s} e w = subst (λ (l : List ℕ). Puts l r s) e w

pub room_is : {a b : List ℕ} {r : Records} → a ≡ b → HasRoom a r → HasRoom b r
room_is {r = r} e room = subst (λ (l : List ℕ). HasRoom l r) e room

module _ (a b : List ℕ) {r : Records} (room : HasRoom (a ++ b) r) where
  -- a part, and another behind it
  pub room_first : HasRoom a r
  room_first = record { fits = omega (arith, room.fits, length-append a b) }

  pub room_rest : {s : Records} → Puts a r s → HasRoom b s
  room_rest {s} w = record { fits = omega (arith, room.fits, length-append a b, w.end, ap length w.made, length_put r.end a r.bytes.now room_first.fits) }

  pub puts_both : {s t : Records} → Puts a r s → Puts b s t → Puts (a ++ b) r t
  puts_both {s} {t} w v =
      record {
        end = omega (arith, length-append a b, w.end, v.end);
        made =
            v.made ∙ ap (λ (k : ℕ). put k b s.bytes.now) w.end ∙ ap (put (r.end + length a) b) w.made
            ∙ put_put r.end a b r.bytes.now (omega (arith, room.fits));
        lent = v.lent ∙ w.lent;
      }

-- What is left to write comes to the whole, and there is room for it.
pub record Left (whole : List ℕ) (start : Records) (rest : List ℕ) (now : Records) : Type 0 where
  pub room : HasRoom rest now
  pub all : (after : Records) → Puts rest now after → Puts whole start after

pub left_all : {whole : List ℕ} {start : Records} → HasRoom whole start → Left whole start whole start
left_all room = record { room = room; all = λ after w. w }

module _ {whole : List ℕ} {start : Records} {rest : List ℕ} {now : Records} (l : Left whole start rest now) where
  -- it is named otherwise
  pub left_is : {other : List ℕ} → rest ≡ other → Left whole start other now
  left_is e = subst (λ (b : List ℕ). Left whole start b now) e l

  -- it is nothing
  pub left_none : rest ≡ [] → Puts whole start now
  left_none none = l.all now (puts_is (sym none) (puts_none now))

  -- it is written
  pub left_done : {after : Records} → Puts rest now after → Puts whole start after
  left_done {after} w = l.all after w

module _ {whole : List ℕ} {start : Records} (part rest : List ℕ) {now : Records} (l : Left whole start (part ++ rest) now) where
  -- there is a part to write first
  pub left_room : HasRoom part now
  left_room = room_first part rest l.room

  pub left_more : {next : Records} → Puts part now next → Left whole start rest next
  left_more w = record { room = room_rest part rest l.room w; all = λ after v. l.all after (puts_both part rest l.room w v) }
