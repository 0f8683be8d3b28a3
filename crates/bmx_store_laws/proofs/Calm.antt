-- Steps of the model but for the making of the object: from an object that is nowhere they lead to one that is
-- nowhere.
use Rattle.std.proofs.Common.{◌≡◌, ℕ, refl, ap, sym, subst, ◌∙◌, Bool, true, false, cond, List, [], ◌∷◌, ◌++◌}
use Rattle.std.specs.Prelude.{◌==◌, Option, Some, None}
use Rattle.std.specs.Option.{option_map}
use Rattle.bmx_types.specs.Updates.{put, put_at}
use Rattle.bmx_token.specs.Transitions.{Share, Transition}
use Rattle.bmx_token_model.specs.Machine.{Message, Object, issue, moved, popped, hears, said_transition, letter_transition, IsSilent, IsNowhere, Step, Makes, Does, Receives, Writes, Forgets, Clears, Run, Goes}

-- it doesn't make the object
abbrev pub IsCalm : {o p : Object} → Step o p → Type 0
IsCalm (Makes me nowhere is) = ⊥
IsCalm (Does me refers a h t has does is) = Unit {0}
IsCalm (Receives from me l rest t apart channel takes is) = Unit {0}
IsCalm (Writes me to tells knows is) = Unit {0}
IsCalm (Forgets me h has none is) = Unit {0}
IsCalm (Clears me other none is) = Unit {0}

-- steps one after another, none of which makes the object
pub data Calm (o : Object) : Object → Type 0 where
  Still : Calm o o
  Then : {p q : Object} → Calm o p → (s : Step p q) → IsCalm s → Calm o q

pub calm_run : (start o p : Object) → Run start o → Calm o p → Run start p
calm_run start o p run Still = run
calm_run start o p run (Then {p = q} calm s is) = Goes (calm_run start o q run calm) s

-- ## letters that say nothing

abbrev AreSilent : List Message → Type 0
AreSilent [] = Unit {0}
AreSilent (l ∷ letters) = IsSilent l × AreSilent letters

pub silent_in : (letters : List Message) → ((l : Message) (before after : List Message) → letters ≡ before ++ l ∷ after → IsSilent l) → AreSilent letters
silent_in [] h = tt
silent_in (l ∷ letters) h = (h l [] letters refl, silent_in letters (λ k before after e. h k (l ∷ before) after (ap (λ (x : List Message). l ∷ x) e)))

pub silent_at : (letters : List Message) → AreSilent letters → (l : Message) (before after : List Message) → letters ≡ before ++ l ∷ after → IsSilent l
silent_at [] silent l [] after e = absurd cc
silent_at [] silent l (b ∷ before) after e = absurd cc
silent_at (k ∷ letters) silent l [] after e = (let same : k ≡ l = cc in subst IsSilent same silent.0)
silent_at (k ∷ letters) silent l (b ∷ before) after e = (let rest : letters ≡ before ++ l ∷ after = cc in silent_at letters silent.1 l before after rest)

silent_append : (a b : List Message) → AreSilent a → AreSilent b → AreSilent (a ++ b)
silent_append [] b h k = k
silent_append (l ∷ a) b h k = (h.0, silent_append a b h.1 k)

-- ## an object that is nowhere

channels : (o : Object) → IsNowhere o → (n m : ℕ) → AreSilent (o.channel n m)
channels o nowhere n m = silent_in (o.channel n m) (nowhere.untold n m)

nowhere_by : (o : Object) → ((n : ℕ) → o.holds n ≡ None) → ((n m : ℕ) → AreSilent (o.channel n m)) → IsNowhere o
nowhere_by o unknown silent = record { unknown = unknown; untold = λ n m. silent_at (o.channel n m) (silent n m) }

-- channels that change at one
put_silent : (channel : ℕ → ℕ → List Message) (n m : ℕ) (w : List Message) → AreSilent w → ((j k : ℕ) → AreSilent (channel j k)) → (j k : ℕ) → AreSilent (put_at channel n m w j k)
put_silent channel n m w here all j k = by_test (n == j)
  where
    row : (b : Bool) → AreSilent (cond b w (channel n k))
    row true = here
    row false = all n k

    by_test : (b : Bool) → AreSilent (cond b (put (channel n) m w) (channel j) k)
    by_test true = row (m == k)
    by_test false = all j k

some_transition : (a b : Transition) → Some a ≡ Some b → a ≡ b
some_transition a b e = cc

-- a letter that says nothing changes nothing where nothing is known
silent_transition : (me from : ℕ) (l : Message) (t : Transition) → IsSilent l → letter_transition me from l None ≡ Some t → t ≡ record { after = None; sends = [] }
silent_transition me from l t silent takes = some_transition t _ (sym takes
    ∙ (λ i. option_map (λ (u : Transition). record u { after = hears (silent.tells i) from u.after }) (said_transition me from (silent.note i) None)))

nothing_there : (h : Share) (k : Option Share) → k ≡ None → k ≡ Some h → ⊥
nothing_there h k none some = (let both : None ≡ Some h = sym none ∙ some in cc)

nowhere_step : (o p : Object) (s : Step o p) → IsCalm s → IsNowhere o → IsNowhere p
nowhere_step o p (Makes me none is) calm nowhere = absurd calm
nowhere_step o p (Does me refers a h t has does is) calm nowhere = absurd (nothing_there h (o.holds me) (nowhere.unknown me) has)
nowhere_step o p (Receives from me l rest t apart channel takes is) calm nowhere = subst IsNowhere (sym (is ∙ ap (moved (popped o from me l rest) me false) quiet))
    (nowhere_by (moved (popped o from me l rest) me false (record { after = None; sends = [] })) unknown
    (put_silent o.channel from me rest all.1 (channels o nowhere)))
  where
    all : AreSilent (l ∷ rest)
    all = subst AreSilent channel (channels o nowhere from me)

    quiet : t ≡ record { after = None; sends = [] }
    quiet = silent_transition me from l t all.0 (ap (letter_transition me from l) (sym (nowhere.unknown me)) ∙ takes)

    unknown : (n : ℕ) → put o.holds me None n ≡ None
    unknown n = by_test (me == n)
      where
        by_test : (b : Bool) → cond b None (o.holds n) ≡ None
        by_test true = refl
        by_test false = nowhere.unknown n
nowhere_step o p (Writes me to tells knows is) calm nowhere = subst IsNowhere (sym is)
    (nowhere_by (issue o me (record { to = to; note = None; tells = tells })) nowhere.unknown
    (put_silent o.channel me to _ (silent_append (o.channel me to) _ (channels o nowhere me to) (record { note = refl; tells = knows (nowhere.unknown me) }, tt)) (channels o nowhere)))
nowhere_step o p (Forgets me h has none is) calm nowhere = absurd (nothing_there h (o.holds me) (nowhere.unknown me) has)
nowhere_step o p (Clears me other none is) calm nowhere = subst IsNowhere (sym is) (nowhere_by _ nowhere.unknown (channels o nowhere))

pub nowhere_calm : (o p : Object) → Calm o p → IsNowhere o → IsNowhere p
nowhere_calm o p Still nowhere = nowhere
nowhere_calm o p (Then {p = q} calm s is) nowhere = nowhere_step q p s is (nowhere_calm o q calm nowhere)
