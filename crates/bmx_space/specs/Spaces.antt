-- The segments that a collection reserves, and how they are handed out.
use Rattle.std.specs.Prelude.{◌≡◌, ℕ, ◌+◌, ◌-◌, ◌*◌, ◌/◌, ◌<◌, ◌≤◌, nat_le, if◌then◌else◌, Option, Some, None, is_some, slice_set, refl}
use Rattle.bmx_segment.specs.Stores.{IsMapped}
use Rattle.bmx_segment.specs.Heaps.{Heap, made_of, own_at, left_of, current_of}
use Rattle.bmx_segment.specs.declared.segments.Own.{Own}

-- the bunch, the number of the segment in use, that behind the last segment, the last one used, and how many
-- words can still be handed out
pub record Reserved : Type 0 where
  pub bunch : Option ℕ
  pub next : ℕ
  pub end : ℕ
  pub used : Option ℕ
  pub words : ℕ

-- nothing is reserved
abbrev pub nothing : Reserved
nothing = record { bunch = None; next = 0; end = 0; used = None; words = 0 }

-- how many segments so many words need: an object takes at most 36, so at least 989 of the 1,024 words of
-- each segment are handed out before one doesn't fit
abbrev pub segments_for : ℕ → ℕ
segments_for words = (words + 988) / 989

-- the segment from which an object of so many fields gets its words: the one in use, or the next one where
-- they don't fit
abbrev pub next_number : Reserved → Heap → ℕ → ℕ
next_number s h size = if nat_le (4 + size) (left_of h s.next) then s.next else s.next + 1

-- what is reserved once an object of so many fields got words of a segment
abbrev pub after_next : Reserved → ℕ → ℕ → Reserved
after_next s number size = record s { next = number; used = Some number; words = s.words - (4 + size) }

-- an own segment of the bunch that is mapped
pub record IsOwn (h : Heap) (bunch : Option ℕ) (number : ℕ) : Type 0 where
  pub some : 0 < number
  pub made : number ≤ made_of h
  pub mapped : IsMapped h.blocks h.me number
  pub of_bunch : (o : Own) → own_at h.own number ≡ Some o → bunch ≡ Some o.bunch

-- The segments from the one in use on are the bunch's own and mapped, those behind it are unused, and the
-- words that can still be handed out are sure to fit. This stays so while no other call hands out words of
-- these segments or drops one.
pub record IsReady (s : Reserved) (h : Heap) : Type 0 where
  pub own : (number : ℕ) → s.next ≤ number → number < s.end → IsOwn h s.bunch number
  pub unused : (number : ℕ) → s.next < number → number < s.end → left_of h number ≡ 1024
  pub used : (number : ℕ) → s.used ≡ Some number → IsOwn h s.bunch number
  pub enough : s.words ≤ (left_of h s.next - 35) + 989 * (s.end - (s.next + 1))
  pub within : s.words ≤ 989 * (s.end - s.next)

-- the heap once the last segment used is open, where its bunch has none open
abbrev pub opened : Heap → ℕ → ℕ → Heap
opened h bunch number = if is_some (current_of h bunch) then h else record h { current = slice_set h.current bunch (Some number) }

abbrev pub opened_last_of : Heap → Option ℕ → Option ℕ → Heap
opened_last_of h (Some bunch) (Some number) = opened h bunch number
opened_last_of h None used = h
opened_last_of h (Some bunch) None = h

abbrev pub opened_last : Reserved → Heap → Heap
opened_last s h = opened_last_of h s.bunch s.used

-- 989 words need one segment, and one more another
one_or_two : (segments_for 989 ≡ 1) × (segments_for 990 ≡ 2) × (segments_for 0 ≡ 0)
one_or_two = (refl, refl, refl)
