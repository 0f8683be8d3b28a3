-- What has come about after events, seen for one name: its bunch, and a run of the model with the tables of that bunch.
use Rattle.std.proofs.Common.{◌≡◌, ℕ, ◌+◌, ◌^◌, ◌<◌, ◌≤◌, ◌&&◌, ◌||◌, arith, refl, ap, sym, subst, ◌∙◌, ◌-◌, Bool, true, false, cond, List, [], ◌∷◌, map, length}
use Rattle.std.specs.Prelude.{◌==◌, Option, Some, None, IsSome, unwrap_or, filter_map}
use Rattle.std.specs.Option.{option_map_or}
use Rattle.std.specs.List.{list_any}
use Rattle.std.proofs.lemmas.List.{length-drop, length-map}
use Rattle.bmx_types.specs.Words.{maker, count_of}
use Rattle.std.proofs.lemmas.Nat.{div-mul-add, mod-mul-add}
use Rattle.bmx_table.specs.declared.tables.Table.{Table}
use Rattle.bmx_owner.specs.Records.{is_listed}
use Rattle.bmx_token_model.specs.Machine.{Object, Run, IsNowhere}
use Rattle.bmx_token_model.specs.Tables as model
use Rattle.bmx_token_model.specs.Tables.{Tabled, TableRun, untabled}
use Rattle.bmx_token_model.proofs.Traffic as traffic
use Rattle.bmx_token_model.proofs.Letters.{letter_of, orderly_run}
use Rattle.bmx_token_model.proofs.Cleaning.{table_run}
use Rattle.bmx_protocol.specs.declared.events.Event.{Event}
use Rattle.bmx_protocol.specs.declared.views.ViewField.{ViewField}
use Rattle.bmx_protocol.specs.declared.views.ViewField.TheVariants as field
use Rattle.bmx_protocol.specs.Nodes.{Setting, NodeState, Known}
use Rattle.bmx_protocol.specs.Rules.{next_name}
use Rattle.bmx_protocol.specs.Steps.{Node}
use Rattle.bmx_protocol.specs.Histories.{issued, taken, in_flight}
use Rattle.bmx_protocol.specs.Worlds.{world_of}
use Rattle.bmx_protocol.proofs.Basics.{eqb_not, Every}
use Rattle.bmx_collection.specs.Reach.{is_reference_to}
use Rattle.bmx_collection.proofs.References.{holds}
use Rattle.bmx_store_laws.specs.Laws.{IsCounted}
use Rattle.bmx_store_laws.specs.Inside.Seen.{seen, seen_known, seen_message, first_world}
use Rattle.bmx_store_laws.proofs.Ruled.{HasNo, NoRefs, FreeOf}
use Rattle.bmx_store_laws.proofs.Channels.{Channels}
use Rattle.bmx_store_laws.proofs.Openings.{is_first}
use Rattle.bmx_collection_laws.proofs.Bunches.{SaysBunch, LetterOf}

-- ## tables, seen for one name

-- a table says of x how many letters were sent and taken, and whether it lists x
abbrev pub view : ℕ → Table → model.Table
view x t = record { sent = t.sent; got = t.got; lists = is_listed t.names x }

-- a table of the bunch from one node for another
abbrev pub view_from : ℕ → ℕ → ℕ → ℕ → Table → Option model.Table
view_from b x m n t = cond ((t.from == m && t.to == n) && t.bunch == b) (Some (view x t)) None

abbrev pub views : ℕ → ℕ → List Table → ℕ → ℕ → List model.Table
views b x made m n = filter_map (view_from b x m n) made

-- the object and its tables
abbrev pub tabled : ℕ → ℕ → List Event → (ℕ → Node) → List Table → Tabled
tabled b x past nodes made = record { object = seen x (world_of nodes past); tables = views b x made }

-- ## what has come about

-- all that nodes and letters in flight say of x is of the bunch
pub record SaysAll (b x : ℕ) (past : List Event) (nodes : ℕ → Node) : Type 0 where
  pub nodes_say : (n : ℕ) → SaysBunch b x (nodes n).state
  pub letters_say : (n m : ℕ) → Every (LetterOf b x) (in_flight n m past)

-- and the object with the tables of the bunch is after a run of the model
pub record HasRun (st : Setting) (b x : ℕ) (past : List Event) (nodes : ℕ → Node) (made : List Table) : Type 0 where
  pub says : SaysAll b x past nodes
  pub run : TableRun (untabled (seen x (first_world st))) (tabled b x past nodes made)

-- x stands nowhere, and may come to be of any bunch; or a node has counted it, and it is of one
pub data Kept (st : Setting) (x : ℕ) (past : List Event) (nodes : ℕ → Node) (made : List Table) : Type 0 where
  Nowhere : IsNowhere (seen x (world_of nodes past)) → ((b : ℕ) → HasRun st b x past nodes made) → Kept st x past nodes made
  Somewhere : IsCounted st (world_of nodes past) x → (b : ℕ) → HasRun st b x past nodes made → Kept st x past nodes made

pub record Came (st : Setting) (x : ℕ) (past : List Event) (nodes : ℕ → Node) (made : List Table) : Type 0 where
  pub channels : Channels past nodes
  pub kept : Kept st x past nodes made

-- the bunch of x, or any
pub some_run : (st : Setting) (x : ℕ) (past : List Event) (nodes : ℕ → Node) (made : List Table) → Kept st x past nodes made → (b : ℕ) × HasRun st b x past nodes made
some_run st x past nodes made (Nowhere nowhere all) = (0, all 0)
some_run st x past nodes made (Somewhere counted b has) = (b, has)

-- ## what nodes have counted

long_of : (letters : List traffic.Letter) (k i : ℕ) → traffic.Counted k letters i → k + length letters ≡ i
long_of [] k i c = omega (arith, c)
long_of (l ∷ letters) k i c = (let more : k + 1 + length letters ≡ i = long_of letters (k + 1) i c.1 in omega (arith, more))

-- a node counts the letters that it issued
pub issued_is : (st : Setting) (x : ℕ) (past : List Event) (nodes : ℕ → Node) (made : List Table) → Came st x past nodes made → (n m : ℕ) →
    (nodes n).state.issued m ≡ length (issued n m past)
issued_is st x past nodes made came n m =
    let has : (b : ℕ) × HasRun st b x past nodes made = some_run st x past nodes made came.kept in
    let o : Object = seen x (world_of nodes past) in
    let run : Run (seen x (first_world st)) o = (table_run (seen x (first_world st)) (tabled has.0 x past nodes made) (is_first st x) (has.1).run).0 in
    let long : (nodes m).state.taken n + length (map letter_of (map (seen_message x) (in_flight n m past))) ≡ (nodes n).state.issued m =
    long_of (map letter_of (map (seen_message x) (in_flight n m past))) _ _ ((orderly_run (seen x (first_world st)) o (is_first st x) run).counted.channels n m) in
    let outer : length (map letter_of (map (seen_message x) (in_flight n m past))) ≡ length (map (seen_message x) (in_flight n m past)) =
    length-map (map (seen_message x) (in_flight n m past)) letter_of in
    let inner : length (map (seen_message x) (in_flight n m past)) ≡ length (in_flight n m past) = length-map (in_flight n m past) (seen_message x) in
    let left : length (in_flight n m past) ≡ length (issued n m past) - length (taken n m past) = length-drop (length (taken n m past)) (issued n m past) in
    let counts : (nodes m).state.taken n ≡ length (taken n m past) = came.channels.counts n m in
    let within : length (taken n m past) ≤ length (issued n m past) = came.channels.within n m in
    omega (arith, long, outer, inner, left, counts, within)

-- ## what is known of a node before its step

-- what its copies refer to is known, and it may count a name more
pub record IsSure (s : NodeState) : Type 0 where
  pub targets : (y z : ℕ) (j : Known) → s.known y ≡ Some j → holds j z ≡ true → IsSome (s.known z)
  pub few : s.made + 1 < 2 ^ 56

has_none : (x : ℕ) (fields : List ViewField) → list_any (is_reference_to x) fields ≡ false → HasNo x fields
has_none x [] h = tt
has_none x (f ∷ fields) h = by f h (has_none x fields)
  where
    neither : (a t : Bool) → (a || t) ≡ false → (a ≡ false) × (t ≡ false)
    neither false false h = (refl, refl)
    neither true t h = cc
    neither false true h = cc

    by : (f : ViewField) → list_any (is_reference_to x) (f ∷ fields) ≡ false → (list_any (is_reference_to x) fields ≡ false → HasNo x fields) → HasNo x (f ∷ fields)
    by field.Null h rest = ((λ e. cc), rest h)
    by (field.Int k) h rest = ((λ e. cc), rest h)
    by (field.Ref y) h rest =
        let both : ((y == x) ≡ false) × (list_any (is_reference_to x) fields ≡ false) = neither (y == x) (list_any (is_reference_to x) fields) h in
        ((λ e. eqb_not y x both.0 (named e)), rest both.1)
      where
        named : field.Ref y ≡ field.Ref x → y ≡ x
        named e = cc

-- a node that doesn't know x refers to it nowhere
pub sure_free : (x : ℕ) (s : NodeState) → IsSure s → seen_known (s.known x) ≡ None → FreeOf x s.known
sure_free x s sure none y k is = by k.copy refl
  where
    unknown : (o : Option Known) → seen_known o ≡ None → IsSome o → ⊥
    unknown None e some = cc
    unknown (Some j) e some = cc

    by : (c : Option (List ViewField)) → k.copy ≡ c → NoRefs x k
    by None at = subst (λ (c : Option (List ViewField)). HasNo x (unwrap_or c [])) (sym at) tt
    by (Some fields) at = subst (λ (c : Option (List ViewField)). HasNo x (unwrap_or c [])) (sym at) (has_none x fields (by_test (list_any (is_reference_to x) fields) refl))
      where
        by_test : (t : Bool) → list_any (is_reference_to x) fields ≡ t → t ≡ false
        by_test false e = refl
        by_test true e = absurd (unknown (s.known x) none
            (sure.targets y x k is (ap (λ (o : Option (List ViewField)). option_map_or (list_any (is_reference_to x)) o false) at ∙ e)))

-- ## a new name

pub maker_next : (x me : ℕ) (s : NodeState) → s.made + 1 < 2 ^ 56 → x ≡ next_name me s → maker x ≡ me
maker_next x me s few new = ap maker new ∙ div-mul-add me (2 ^ 56) (s.made + 1) few

pub count_next : (x me : ℕ) (s : NodeState) → s.made + 1 < 2 ^ 56 → x ≡ next_name me s → count_of x ≡ s.made + 1
count_next x me s few new = ap count_of new ∙ mod-mul-add me (2 ^ 56) (s.made + 1) few

-- a name that a node makes next is counted by nobody
pub new_name : (st : Setting) (x me : ℕ) (past : List Event) (nodes : ℕ → Node) → (nodes me).state.made + 1 < 2 ^ 56 → x ≡ next_name me (nodes me).state →
    IsCounted st (world_of nodes past) x → ⊥
new_name st x me past nodes few new counted =
    let number : count_of x ≡ (nodes me).state.made + 1 = count_next x me (nodes me).state few new in
    let at_most : count_of x ≤ (nodes me).state.made = subst (λ (z : ℕ). count_of x ≤ (nodes z).state.made) (maker_next x me (nodes me).state few new) counted.made in
    omega (arith, number, at_most)
