-- What the model's law of wants says of a store: each stands once, and nothing else is asked or granted.
use Rattle.std.proofs.Common.{◌≡◌, ℕ, ◌+◌, refl, ap, sym, ◌∙◌, Bool, true, false, cond, List, [], ◌∷◌, map}
use Rattle.std.specs.Prelude.{◌==◌, ◌&&◌, Option, Some, None, count_by}
use Rattle.std.specs.Option.{option_map_or}
use Rattle.std.proofs.lemmas.List.Sums.{sum_by-cons}
use Rattle.bmx_types.specs.declared.numbers.Mode.{Mode}
use Rattle.bmx_msg.specs.declared.letters.Letter.{Letter}
use Rattle.bmx_token.specs.declared.parts.Ask.{Ask}
use Rattle.bmx_token.specs.Transitions.{Share, Note, same_mode, is_request_of, is_grant_of}
use Rattle.bmx_protocol.specs.Nodes.{Known, share_of}
use Rattle.bmx_protocol.specs.Rules.{name_in, note_in}
use Rattle.bmx_protocol.specs.Worlds.{World}
use Rattle.bmx_token_model.specs.Machine.{Message}
use Rattle.bmx_token_model.specs.Laws.{same_spot, count_notes, queue_at, standing, WantsArePlaced}
use Rattle.bmx_token_model.specs.Laws as model
use Rattle.bmx_store_laws.specs.Inside.Seen.{seen, seen_message, seen_known}
use Rattle.bmx_store_laws.specs.Laws.{Spot, Asked, Queued, Granted, letters_about, times_at, IsWaiting, StandsOnce, WantsStand}
use Rattle.bmx_store_laws.proofs.Owners.{one_if}
use Rattle.bmx_store_laws.proofs.Readers.{known_seen}
use Rattle.bmx_protocol.proofs.Basics.{Two, Same, Apart, two, eqb_same}

-- ## counts

-- letters are counted as the model counts what it sees of them
letters_same : (x : ℕ) (test : Note → Bool) (letters : List Letter) → count_notes test (map (seen_message x) letters) ≡ letters_about x test letters
letters_same x test [] = refl
letters_same x test (l ∷ letters) =
    sum_by-cons (λ (k : Message). one_if (option_map_or test k.note false)) (seen_message x l) (map (seen_message x) letters)
    ∙ (λ i. one_if (by_name (name_in l.msg == x) i) + letters_same x test letters i)
    ∙ sym (sum_by-cons (λ (k : Letter). one_if ((name_in k.msg == x) && test (note_in k.msg))) l letters)
  where
    by_name : (b : Bool) → option_map_or test (cond b (Some (note_in l.msg)) None) false ≡ (b && test (note_in l.msg))
    by_name true = refl
    by_name false = refl

queued_same : (m : Mode) (a : ℕ) (k : Option Known) →
    count_by (λ (q : Ask). same_mode m q.mode && (q.asker == a)) (queue_at (seen_known k))
    ≡ option_map_or (λ (j : Known). count_by (λ (q : Ask). same_mode m q.mode && (q.asker == a)) j.part.queue) k 0
queued_same m a None = refl
queued_same m a (Some k) = refl

-- ## spots

abbrev model_spot : Spot → model.Spot
model_spot (Asked from to) = model.Requested from to
model_spot (Queued at) = model.Queued at
model_spot (Granted from) = model.Granted from

stands_same : (w : World) (x : ℕ) (m : Mode) (a : ℕ) (t : Spot) → standing (seen x w) m a (model_spot t) ≡ times_at w x m a t
stands_same w x m a (Asked from to) = letters_same x (is_request_of m a) (w.channel from to)
stands_same w x m a (Queued at) = queued_same m a ((w.state at).known x)
stands_same w x m a (Granted from) = letters_same x (is_grant_of m) (w.channel from a)

spots_apart : (s t : Spot) → (t ≡ s → ⊥) → same_spot (model_spot s) (model_spot t) ≡ false
spots_apart (Asked n k) (Asked j l) d = by_two (two n j) (two k l)
  where
    by_two : Two n j → Two k l → ((n == j) && (k == l)) ≡ false
    by_two (Same e) (Same f) = absurd (d (λ i. Asked (sym e i) (sym f i)))
    by_two (Same e) (Apart f h) = (λ i. (n == j) && f i) ∙ both (n == j)
      where
        both : (b : Bool) → (b && false) ≡ false
        both true = refl
        both false = refl
    by_two (Apart f h) q = λ i. f i && (k == l)
spots_apart (Asked n k) (Queued j) d = refl
spots_apart (Asked n k) (Granted j) d = refl
spots_apart (Queued n) (Asked j l) d = refl
spots_apart (Queued n) (Queued j) d = by_two (two n j)
  where
    by_two : Two n j → (n == j) ≡ false
    by_two (Same e) = absurd (d (ap (λ (z : ℕ). Queued z) (sym e)))
    by_two (Apart f h) = f
spots_apart (Queued n) (Granted j) d = refl
spots_apart (Granted n) (Asked j l) d = refl
spots_apart (Granted n) (Queued j) d = refl
spots_apart (Granted n) (Granted j) d = by_two (two n j)
  where
    by_two : Two n j → (n == j) ≡ false
    by_two (Same e) = absurd (d (ap (λ (z : ℕ). Granted z) (sym e)))
    by_two (Apart f h) = f

spot_same : (s : Spot) → same_spot (model_spot s) (model_spot s) ≡ true
spot_same (Asked n k) = λ i. eqb_same n i && eqb_same k i
spot_same (Queued n) = eqb_same n
spot_same (Granted n) = eqb_same n

-- ## wants

stands_once : (w : World) (x : ℕ) (m : Mode) (a : ℕ) → model.IsPlaced (seen x w) m a → StandsOnce w x m a
stands_once w x m a placed = by_spot placed.spot placed.once
  where
    at : (r : Spot) → ((t : model.Spot) → standing (seen x w) m a t ≡ cond (same_spot (model_spot r) t) 1 0) → StandsOnce w x m a
    at r one = record {
      spot = r;
      once = sym (stands_same w x m a r) ∙ one (model_spot r) ∙ (λ i. cond (spot_same r i) 1 0);
      alone = λ t d. sym (stands_same w x m a t) ∙ one (model_spot t) ∙ (λ i. cond (spots_apart r t d i) 1 0);
    }

    by_spot : (s : model.Spot) → ((t : model.Spot) → standing (seen x w) m a t ≡ cond (same_spot s t) 1 0) → StandsOnce w x m a
    by_spot (model.Requested n k) one = at (Asked n k) one
    by_spot (model.Queued n) one = at (Queued n) one
    by_spot (model.Granted n) one = at (Granted n) one

waiting_seen : (w : World) (x : ℕ) (m : Mode) (a : ℕ) → IsWaiting w x m a → model.IsWaiting (seen x w) m a
waiting_seen w x m a i = record { share = share_of i.known; has = ap seen_known i.knows; want = i.want; unready = i.unready }

waiting_in : (w : World) (x : ℕ) (m : Mode) (a : ℕ) → model.IsWaiting (seen x w) m a → IsWaiting w x m a
waiting_in w x m a i =
    let k : (j : Known) × ((w.state a).known x ≡ Some j) × (share_of j ≡ i.share) = known_seen ((w.state a).known x) i.share i.has in
    record {
      known = k.0;
      knows = k.1;
      want = ap (λ (h : Share). h.part.want) k.2 ∙ i.want;
      unready = ap (λ (h : Share). h.part.ready) k.2 ∙ i.unready;
    }

pub wants_stand : (w : World) (x : ℕ) → WantsArePlaced (seen x w) → WantsStand w x
wants_stand w x placed = record {
  waits = λ m a i. stands_once w x m a (placed.wanted m a (waiting_seen w x m a i));
  others = λ m a none t. sym (stands_same w x m a t) ∙ placed.unwanted m a (λ i. none (waiting_in w x m a i)) (model_spot t);
}
