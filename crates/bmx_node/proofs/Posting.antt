-- Messages that are posted one after another.
use Rattle.std.proofs.Common.{◌≡◌, ℕ, ◌+◌, ◌<◌, List, [], ◌∷◌, ◌++◌, length, take, map, get_or, refl, sym, ap, ◌∙◌, subst, append_assoc}
use Rattle.std.proofs.lemmas.List.{take_more}
use Rattle.bmx_types.specs.Updates.{put}
use Rattle.bmx_protocol.specs.Rules.{Draft}
use Rattle.bmx_protocol.specs.Steps.{sent_changes}
use Rattle.bmx_mail.specs.Mails.{MailState, OutboxState, issued_of, Tracks, TellsBunches, next_letter}
use Rattle.bmx_mail.specs.Inside.Posts.{Posts}
use Rattle.bmx_mail.proofs.Posting.{posts-more}

map_one : {A : Type 0} (f : A → Draft) (xs : List A) (x : A) → map f (xs ++ x ∷ []) ≡ map f xs ++ f x ∷ []
map_one f [] x = refl
map_one f (y ∷ ys) x = ap (λ l. f y ∷ l) (map_one f ys x)

-- one draft more of a list of them
pub drafts_more : {A : Type 0} (f : A → Draft) (xs : List A) (i : ℕ) (x : A) (drafts : List Draft) → i < length xs → x ≡ get_or xs i x →
    (drafts ++ map f (take i xs)) ++ f x ∷ [] ≡ drafts ++ map f (take (i + 1) xs)
drafts_more f xs i x drafts lt is =
    append_assoc drafts (map f (take i xs)) (f x ∷ [])
    ∙ ap (λ l. drafts ++ l) (sym (map_one f (take i xs) x) ∙ ap (λ y. map f (take i xs ++ y ∷ [])) is ∙ ap (map f) (sym (take_more xs i x lt)))

-- one draft more in an outbox
pub posted_more : (first now new : MailState) (box more : OutboxState) (stamp : ℕ) (drafts all : List Draft) (d : Draft) →
    Posts first now stamp drafts box.letters → box.stamp ≡ stamp → more.letters ≡ box.letters ++ next_letter now box.stamp d.to d.msg ∷ [] →
    issued_of new ≡ put (issued_of now) d.to (issued_of now d.to + 1) →
    Tracks now new (sent_changes (next_letter now box.stamp d.to d.msg)) (λ s. TellsBunches s d.msg) → drafts ++ d ∷ [] ≡ all →
    Posts first new stamp all more.letters
posted_more first now new box more stamp drafts all d before same letters issued change is =
    let next : Posts first new box.stamp (drafts ++ d ∷ []) (box.letters ++ next_letter now box.stamp d.to d.msg ∷ []) =
    posts-more first now new box.stamp drafts box.letters d (subst (λ (n : ℕ). Posts first now n drafts box.letters) (sym same) before) issued change in
    subst (λ (n : ℕ). Posts first new n all more.letters) same
    (subst (λ (l : List Draft). Posts first new box.stamp l more.letters) is
    (subst (λ l. Posts first new box.stamp (drafts ++ d ∷ []) l) (sym letters) next))
