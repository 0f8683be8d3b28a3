-- The laws apply to a history worked by hand.
use Rattle.std.proofs.Common.{◌≡◌, ℕ, ◌≤◌, arith, refl, ap, Bool, true, false, cond, [], ◌∷◌, ◌++◌, length}
use Rattle.std.specs.Prelude.{◌==◌, slice_index_or}
use Rattle.bmx_protocol.specs.declared.events.Event.{Event}
use Rattle.bmx_protocol.specs.Steps.{Node}
use Rattle.bmx_protocol.specs.Histories.{IsLegal}
use Rattle.bmx_protocol.specs.Cases.{one_bunch}
use Rattle.bmx_protocol.proofs.Basics.{Every, some_same}
use Rattle.bmx_protocol.proofs.Prefixes.{prefix_is_legal}
use Rattle.bmx_store_laws.proofs.Applied.{laws_apply}
use Rattle.bmx_msg.specs.declared.letters.Letter.{Letter}
use Rattle.bmx_places.specs.Cases.{granted, the_grant}
use Rattle.bmx_legal.specs.Growing.{AreStamps, MayFollow}
use Rattle.bmx_legal.specs.Cases.{stamps_then, taking, another, LawsTell}
use Rattle.bmx_legal.proofs.Growing.{every_there}
use Rattle.bmx_legal.proofs.Follows.{each_may_follow}

whole : IsLegal (one_bunch 2) (granted.past ++ taking ∷ [])
whole = laws_apply.1

legal : IsLegal (one_bunch 2) granted.past
legal = prefix_is_legal (one_bunch 2) granted.past (taking ∷ []) whole

each_last : Every (λ (e : Event). e.stamp ≤ stamps_then e.node) granted.past
each_last = (omega arith, (omega arith, (omega arith, (omega arith, (omega arith, (omega arith, (omega arith, tt)))))))

each_few : (n : ℕ) → stamps_then n ≤ length granted.past
each_few n = by_tests (n == 0) (n == 1)
  where
    by_tests : (a b : Bool) → cond a 6 (cond b 1 0) ≤ 7
    by_tests true b = omega arith
    by_tests false true = omega arith
    by_tests false false = omega arith

stamped : AreStamps granted.past stamps_then
stamped = record { last = λ e c. every_there (λ (f : Event). f.stamp ≤ stamps_then f.node) granted.past e each_last c; few = each_few }

follows : (n : Node) × MayFollow (one_bunch 2) granted.past legal.steps.0 stamps_then taking n
follows = each_may_follow (one_bunch 2) granted.past ([]) legal.steps.0 stamps_then taking laws_apply.0 whole legal.steps.1 refl

seq_of : Letter → ℕ
seq_of l = l.seq

apart : the_grant ≡ another → ⊥
unfolding seq_of
apart e = (let same : 1 ≡ 2 = ap seq_of e in absurd (omega (arith, same)))

pub laws_tell : LawsTell
laws_tell = record {
  opening = laws_apply.0;
  follows = (legal.steps.0, follows.0, record { legal = legal; reached = legal.steps.1; stamped = stamped }, follows.1);
  before = refl;
  after = refl;
  not_another = λ e. apart (some_same e);
  not_smaller = λ s. (let last : 6 ≤ 5 = s.last (slice_index_or granted.past 6 taking) (6, omega arith, refl) in absurd (omega (arith, last)));
  not_larger = λ s. (let few : 8 ≤ 7 = s.few 0 in absurd (omega (arith, few)));
}
