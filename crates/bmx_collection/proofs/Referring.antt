-- A step without a collector keeps what a node refers to known, and with its stubs: by each rule.
use Rattle.std.proofs.Common.{◌≡◌, ◌≢◌, ℕ, zero, suc, ◌+◌, ◌^◌, ◌<◌, ◌≤◌, ◌==◌, ◌&&◌, ◌||◌, ◌⊎◌, inl, inr, ⊎_elim, not, nat_lt, nat_le, Bool, true, false, cond, List, [], ◌∷◌, ◌++◌, map, length, fold, filter_map, replicate, slice_get, slice_set, Contains, IsSome, refl, ap, sym, ◌∙◌, subst, arith}
use Rattle.std.specs.Prelude.{ℤ, Option, Some, None, is_some}
use Rattle.std.specs.Option.{option_map, option_map_or}
use Rattle.std.specs.List.{list_any, cons_option}
use Rattle.std.proofs.lemmas.Bool.Decides.{nat_tests}
use Rattle.bmx_types.specs.Words.{maker, count_of, name_word, anchor_of, home_of}
use Rattle.bmx_types.specs.Openings.{bunches_of}
use Rattle.bmx_types.specs.declared.addresses.Info.{Info}
use Rattle.bmx_types.specs.declared.addresses.Place.{Place}
use Rattle.bmx_types.specs.declared.names.Pair.{Pair}
use Rattle.bmx_types.specs.declared.values.Val.{Val}
use Rattle.bmx_types.specs.declared.values.Val.TheVariants as val
use Rattle.bmx_types.specs.declared.commands.Operand.{Operand}
use Rattle.bmx_types.specs.declared.commands.Operand.TheVariants as operand
use Rattle.bmx_types.specs.declared.commands.Command.{Command}
use Rattle.bmx_types.specs.declared.commands.Command.TheVariants as command
use Rattle.bmx_types.specs.declared.commands.Refusal.TheVariants as refusal
use Rattle.bmx_types.specs.declared.numbers.Mode.TheVariants as mode
use Rattle.bmx_types.specs.Updates.{put}
use Rattle.bmx_graph.specs.declared.answers.Answer.{Answer}
use Rattle.bmx_graph.specs.declared.answers.Answer.TheVariants as graph
use Rattle.bmx_graph.specs.declared.effects.Effect.TheVariants as graph_effect
use Rattle.bmx_graph.specs.State.{fields_of}
use Rattle.bmx_graph.specs.Step.{value_of, target_of, set_at, set_answer, add_to, add_at, add_answer, is_writer, sum_of, answer_of, holding, storing, setting, raised_by, field_at}
use Rattle.bmx_msg.specs.declared.letters.Field.{Field}
use Rattle.bmx_msg.specs.declared.letters.Field.TheVariants as msg_field
use Rattle.bmx_msg.specs.declared.letters.Msg.{Msg}
use Rattle.bmx_msg.specs.declared.letters.Msg.TheVariants as msg
use Rattle.bmx_msg.specs.declared.letters.Letter.{Letter}
use Rattle.bmx_token.specs.Transitions.{Share, Note, Asks, Grants, Recalls, Returns, Operation, Transition, Serves, Acquires, Releases, transition_of}
use Rattle.bmx_inter.specs.declared.inter.Stub.{Stub}
use Rattle.bmx_inter.specs.Inter.{stub_of}
use Rattle.bmx_barrier.specs.Barrier.{needs_pair}
use Rattle.bmx_protocol.specs.declared.inputs.Input.{Input}
use Rattle.bmx_protocol.specs.declared.inputs.Input.TheVariants as input
use Rattle.bmx_protocol.specs.declared.inputs.NodeAnswer.{NodeAnswer}
use Rattle.bmx_protocol.specs.declared.inputs.NodeAnswer.TheVariants as answer
use Rattle.bmx_protocol.specs.declared.views.ViewField.{ViewField}
use Rattle.bmx_protocol.specs.declared.views.ViewField.TheVariants as field
use Rattle.bmx_protocol.specs.Nodes.{Setting, NodeState, Known, field_of, value_in, fields_known, seen_graph, with_field, share_of}
use Rattle.bmx_protocol.specs.Places.{Places, differs, clashes_at, with_learnt}
use Rattle.bmx_protocol.specs.Changes.{Change, Sets, Hears, Takes, heard_of, heard, after_change, after_changes}
use Rattle.bmx_protocol.specs.Rules.{Reaction, only, refused, info_of, told_field, heard_field, info_in, infos, grant_in, name_in, note_in, with_share, known_change, operation_answer, after_operation, operation_rule, next_name, new_object, stored, graph_changes, answered, token_rule, knows, do_rule, copy_after, got_change, took, take_rule}
use Rattle.bmx_protocol.specs.Strays.{is_no_node, is_no_name, is_bad_info, is_bad_msg, is_bad_letter, clashes, some_clash, asker_in, too_large}
use Rattle.bmx_protocol.specs.Steps.{is_nil, is_taken, Told, IsTold, rule, letter_rule, nowhere}
use Rattle.bmx_protocol.specs.Histories.{IsOperandOf, IsCommandOf, IsInputOf}
use Rattle.bmx_protocol.proofs.Basics.{eqb_is, eqb_same, eqb_of, put_same, put_apart, Two, Same, Apart, two, some_same}
use Rattle.bmx_protocol.proofs.Changing.{after_append}
use Rattle.bmx_collection.specs.Links.{Links, with_pair, pair_in, pairs_in, bunch_at, pairs_of_effect, pairs_of_command, pairs_of_message, pairs_of}
use Rattle.bmx_collection.specs.Reach.{is_reference_to}
use Rattle.bmx_collection.proofs.Listing.{clash, nothing_in, first_of, behind, one_of}
use Rattle.bmx_collection.proofs.References.{holds, HasStub, Stand, the_known, Fit, stubs_stay, stub_comes, restubbed, set, replaced, added}

neither : (a b : Bool) → (a || b) ≡ false → (a ≡ false) × (b ≡ false)
neither false b e = (refl, e)
neither true b e = cc

-- ## pairs

in_pairs : (name bunch : ℕ) (fields : List Field) (x : Stub) → Contains (pairs_in name bunch fields) x → (x.source ≡ name) × (x.bunch ≡ bunch)
in_pairs name bunch [] x c = absurd (nothing_in x c)
in_pairs name bunch (f ∷ fields) x c = by (pair_in name bunch f) (one f) c (in_pairs name bunch fields x)
  where
    by : (o : Option Stub) → ((y : Stub) → o ≡ Some y → (y.source ≡ name) × (y.bunch ≡ bunch)) → Contains (cons_option o (pairs_in name bunch fields)) x →
        (Contains (pairs_in name bunch fields) x → (x.source ≡ name) × (x.bunch ≡ bunch)) → (x.source ≡ name) × (x.bunch ≡ bunch)
    by None is c rest = rest c
    by (Some y) is c rest = ⊎_elim
        (λ here. subst (λ (z : Stub). (z.source ≡ name) × (z.bunch ≡ bunch)) here (is y refl))
        rest
        (one_of y x (pairs_in name bunch fields) c)

    of_info : (b : Bool) (o : Option Info) (y : Stub) → cond b (option_map (λ (i : Info). stub_of name bunch i.name) o) None ≡ Some y → (y.source ≡ name) × (y.bunch ≡ bunch)
    of_info true None y e = cc
    of_info true (Some i) y e = (let same : stub_of name bunch i.name ≡ y = some_same e in (sym (ap (λ (z : Stub). z.source) same), sym (ap (λ (z : Stub). z.bunch) same)))
    of_info false o y e = cc

    one : (f : Field) (y : Stub) → pair_in name bunch f ≡ Some y → (y.source ≡ name) × (y.bunch ≡ bunch)
    one f y e = of_info (needs_pair bunch f) (info_in f) y e

pairs_have : (name bunch : ℕ) (fields : List Field) (i : Info) → Contains fields (msg_field.Ref i) → i.bunch ≢ bunch → Contains (pairs_in name bunch fields) (stub_of name bunch i.name)
pairs_have name bunch [] i c apart = absurd (nothing_in (msg_field.Ref i) c)
pairs_have name bunch (f ∷ fields) i c apart = ⊎_elim
    (λ here. now (pair_in name bunch f) (ap (pair_in name bunch) here ∙ needed (i.bunch == bunch) (eqb_apart_of i.bunch bunch apart)))
    (λ there. later (pair_in name bunch f) (pairs_have name bunch fields i there apart))
    (one_of f (msg_field.Ref i) fields c)
  where
    eqb_apart_of : (a b : ℕ) → a ≢ b → (a == b) ≡ false
    eqb_apart_of a b differ = by (two a b)
      where
        by : Two a b → (a == b) ≡ false
        by (Same e) = absurd (differ e)
        by (Apart e other) = e

    needed : (b : Bool) → b ≡ false → cond (not b) (option_map (λ (j : Info). stub_of name bunch j.name) (Some i)) None ≡ Some (stub_of name bunch i.name)
    needed false e = refl
    needed true e = cc

    now : (o : Option Stub) → o ≡ Some (stub_of name bunch i.name) → Contains (cons_option o (pairs_in name bunch fields)) (stub_of name bunch i.name)
    now None e = cc
    now (Some y) e = (0, omega arith, some_same e)

    later : (o : Option Stub) → Contains (pairs_in name bunch fields) (stub_of name bunch i.name) → Contains (cons_option o (pairs_in name bunch fields)) (stub_of name bunch i.name)
    later None c = c
    later (Some y) c = behind y (stub_of name bunch i.name) (pairs_in name bunch fields) c

-- the pairs of fields of a known object of the bunch fit what is known
pairs_fit : (known : ℕ → Option Known) (name bunch : ℕ) (fields : List Field) → ((j : Known) → known name ≡ Some j → bunch ≡ j.bunch) →
    (y z : ℕ) (j : Known) → known y ≡ Some j → Fit (pairs_in name bunch fields) y z j.bunch
pairs_fit known name bunch fields same y z j e x c pair =
    let is : (x.source ≡ name) × (x.bunch ≡ bunch) = in_pairs name bunch fields x c in
    let at : y ≡ name = sym (ap (λ (p : Pair). p.source) pair) ∙ is.0 in
    is.1 ∙ same j (ap known (sym at) ∙ e)

-- ## what a rule leaves

-- the node stands, with the stubs of so many references more, and it made one name more at most
pub record Left (st : Setting) (me : ℕ) (l : Links) (clock made : ℕ) (xs : List Stub) (u : NodeState) : Type 0 where
  pub stand : Stand st me u.made u.known u.register (fold (with_pair clock) l xs).stubs
  pub at_most : u.made ≤ made + 1

-- pairs where a command was done, or none
none_either : (b : Bool) (ps : List Stub) → ps ≡ [] → cond b ps [] ≡ []
none_either true ps e = e
none_either false ps e = refl

module _ (st : Setting) (me : ℕ) (s : NodeState) (l : Links) (clock : ℕ) (w : Stand st me s.made s.known s.register l.stubs) where
  -- what a reaction leaves, where these references get their pairs
  abbrev After : List Stub → Reaction → Type 0
  After xs o = Left st me l clock s.made xs (after_changes s o.changes)

  as_it_was : (xs : List Stub) → xs ≡ [] → Left st me l clock s.made xs s
  as_it_was xs none = subst (λ (ys : List Stub). Left st me l clock s.made ys s) (sym none) (record { stand = w; at_most = omega arith })

  -- ## tokens

  -- an entry that has the references of the one before, or none
  less_left : (name : ℕ) (k k' : Known) (xs : List Stub) → s.known name ≡ Some k → k'.bunch ≡ k.bunch → ((z : ℕ) → holds k' z ≡ true → holds k z ≡ true) → xs ≡ [] →
      Left st me l clock s.made xs (record s { known = put s.known name (Some k') })
  less_left name k k' xs was same fewer none =
      subst (λ (ys : List Stub). Left st me l clock s.made ys (record s { known = put s.known name (Some k') })) (sym none) (record {
        stand = replaced st me s.made s.known s.register l.stubs w l.stubs name k k' was same
            (λ z h. w.targets name z k was (fewer z h)) (λ z kz e h apart. w.pairs name z k kz was e (fewer z h) apart) (λ y z j e h. h);
        at_most = omega arith;
      })

  operation_left : (lies : ℕ → Place) (a : Operation) (unknown : NodeAnswer) (name : ℕ) (xs : List Stub) → xs ≡ [] →
      After xs (operation_rule me s lies a unknown name (s.known name))
  operation_left lies a unknown name xs none = by (s.known name) refl
    where
      by_share : (k : Known) (h : Option Share) → s.known name ≡ Some k → Left st me l clock s.made xs (after_changes s (known_change name (Some k) k.copy h))
      by_share k None e = as_it_was xs none
      by_share k (Some h) e = less_left name k (with_share k k.copy h) xs e refl (fewer h.copy) none
        where
          fewer : (c : Bool) (z : ℕ) → option_map_or (list_any (is_reference_to z)) (cond c k.copy None) false ≡ true → holds k z ≡ true
          fewer true z h = h
          fewer false z h = cc

      by_transition : (k : Known) (t : Option Transition) → s.known name ≡ Some k → After xs (after_operation s lies name k (operation_answer me a (share_of k)) t)
      by_transition k None e = as_it_was xs none
      by_transition k (Some t) e = by_share k t.after e

      by : (o : Option Known) → s.known name ≡ o → After xs (operation_rule me s lies a unknown name o)
      by None e = as_it_was xs none
      by (Some k) e = by_transition k (transition_of me a (share_of k)) e

  token_left : (lies : ℕ → Place) (a : Operation) (o : Option ℕ) (xs : List Stub) → xs ≡ [] → After xs (token_rule me s lies a o)
  token_left lies a None xs none = as_it_was xs none
  token_left lies a (Some name) xs none = operation_left lies a (answer.Refused refusal.Empty) name xs none

  -- ## values

  value_known : (o : Operand) (x : ℕ) → IsOperandOf st o → value_of (seen_graph me s) me o ≡ val.Ref x → IsSome (s.known x)
  value_known (operand.Register r) x ok e = w.registers r x ok (sym (ap (λ (b : Bool). cond b (s.register r) val.Null) (eqb_same me)) ∙ e)
  value_known (operand.Anchor b) x ok e =
      let is : anchor_of b ≡ x = cc in
      let a : (k : Known) × (s.known (anchor_of b) ≡ Some k) × (k.bunch ≡ b) = w.anchors b ok in
      subst (λ (i : ℕ). IsSome (s.known i)) is (ap (λ (o : Option Known). is_some o) a.1)
  value_known (operand.Int k) x ok e = cc
  value_known operand.Null x ok e = cc

  -- what a field of a copy refers to is known
  field_known : (name index : ℕ) (v : Val) (x : ℕ) → slice_get (fields_of (seen_graph me s) name) index ≡ Some v → v ≡ val.Ref x → IsSome (s.known x)
  field_known name index v x e is = by (s.known name) refl e
    where
      in_fields : (fields : List ViewField) (i : ℕ) → slice_get (map value_in fields) i ≡ Some v → list_any (is_reference_to x) fields ≡ true
      in_fields [] i e = cc
      in_fields (f ∷ fields) zero e = first (is_reference_to x f) (list_any (is_reference_to x) fields) (refers f (some_same e ∙ is))
        where
          refers : (f : ViewField) → value_in f ≡ val.Ref x → is_reference_to x f ≡ true
          refers field.Null e = cc
          refers (field.Int k) e = cc
          refers (field.Ref y) e = (let same : y ≡ x = cc in eqb_of same)

          first : (a b : Bool) → a ≡ true → (a || b) ≡ true
          first true b e = refl
          first false b e = cc
      in_fields (f ∷ fields) (suc i) e = later (is_reference_to x f) (list_any (is_reference_to x) fields) (in_fields fields i e)
        where
          later : (a b : Bool) → b ≡ true → (a || b) ≡ true
          later true b e = refl
          later false b e = e

      by_copy : (k : Known) (c : Option (List ViewField)) → s.known name ≡ Some k → k.copy ≡ c → slice_get (option_map_or (λ (fields : List Val). fields) (option_map (map value_in) c) []) index ≡ Some v → IsSome (s.known x)
      by_copy k None at copy e = cc
      by_copy k (Some fields) at copy e =
          w.targets name x k at (ap (λ (c : Option (List ViewField)). option_map_or (list_any (is_reference_to x)) c false) copy ∙ in_fields fields index e)

      by : (o : Option Known) → s.known name ≡ o → slice_get (option_map_or (λ (fields : List Val). fields) (fields_known o) []) index ≡ Some v → IsSome (s.known x)
      by None at e = cc
      by (Some k) at e = by_copy k k.copy at refl e

  -- ## a field is stored

  set_refers : (fields : List ViewField) (index z : ℕ) (f : ViewField) → list_any (is_reference_to z) (slice_set fields index f) ≡ true →
      (list_any (is_reference_to z) fields ≡ true) ⊎ (is_reference_to z f ≡ true)
  set_refers [] index z f e = cc
  set_refers (g ∷ fields) zero z f e = by (is_reference_to z f) refl e
    where
      by : (b : Bool) → is_reference_to z f ≡ b → (b || list_any (is_reference_to z) fields) ≡ true →
          ((is_reference_to z g || list_any (is_reference_to z) fields) ≡ true) ⊎ (is_reference_to z f ≡ true)
      by true is e = inr is
      by false is e = inl (or_right (is_reference_to z g) (list_any (is_reference_to z) fields) e)
        where
          or_right : (a b : Bool) → b ≡ true → (a || b) ≡ true
          or_right true b e = refl
          or_right false b e = e
  set_refers (g ∷ fields) (suc index) z f e = by (is_reference_to z g) e (set_refers fields index z f)
    where
      by : (b : Bool) → (b || list_any (is_reference_to z) (slice_set fields index f)) ≡ true →
          (list_any (is_reference_to z) (slice_set fields index f) ≡ true → (list_any (is_reference_to z) fields ≡ true) ⊎ (is_reference_to z f ≡ true)) →
          ((b || list_any (is_reference_to z) fields) ≡ true) ⊎ (is_reference_to z f ≡ true)
      by true e rest = inl refl
      by false e rest = rest e

  stored_is : (z : ℕ) (v : Val) → is_reference_to z (field_of v) ≡ true → v ≡ val.Ref z
  stored_is z val.Null e = cc
  stored_is z (val.Int k) e = cc
  stored_is z (val.Ref y) e = ap val.Ref (eqb_is y z e)

  with_field_holds : (k : Known) (index : ℕ) (v : Val) (z : ℕ) → holds (with_field index v k) z ≡ true → (holds k z ≡ true) ⊎ (v ≡ val.Ref z)
  with_field_holds k index v z = by k.copy
    where
      by : (c : Option (List ViewField)) → option_map_or (list_any (is_reference_to z)) (option_map (λ fields. slice_set fields index (field_of v)) c) false ≡ true →
          (option_map_or (list_any (is_reference_to z)) c false ≡ true) ⊎ (v ≡ val.Ref z)
      by None e = cc
      by (Some fields) e = ⊎_elim (λ old. inl old) (λ new. inr (stored_is z v new)) (set_refers fields index z (field_of v) e)

  store_left : (name index : ℕ) (v : Val) (k : Known) → s.known name ≡ Some k → ((z : ℕ) → v ≡ val.Ref z → IsSome (s.known z)) →
      Left st me l clock s.made (pairs_in name (bunch_at s name) (told_field s (λ _. nowhere) (field_of v) ∷ [])) (record s { known = put s.known name (Some (with_field index v k)) })
  store_left name index v k was fits = record {
    stand = replaced st me s.made s.known s.register l.stubs w (fold (with_pair clock) l ps).stubs name k (with_field index v k) was refl
        (λ z h. ⊎_elim (λ old. w.targets name z k was old) (fits z) (with_field_holds k index v z h))
        (λ z kz e h apart. ⊎_elim
        (λ old. stubs_stay clock ps l name z k.bunch (fit name z k was) (w.pairs name z k kz was e old apart))
        (λ new. comes z kz e new apart)
        (with_field_holds k index v z h))
        (λ y z j e h. stubs_stay clock ps l y z j.bunch (fit y z j e) h);
    at_most = omega arith;
  }
    where
      ps : List Stub
      ps = pairs_in name (bunch_at s name) (told_field s (λ _. nowhere) (field_of v) ∷ [])

      bunch_is : (j : Known) → s.known name ≡ Some j → bunch_at s name ≡ j.bunch
      bunch_is j e = ap (λ (o : Option Known). option_map_or (λ (i : Known). i.bunch) o 0) e

      fit : (y z : ℕ) (j : Known) → s.known y ≡ Some j → Fit (pairs_in name (bunch_at s name) (told_field s (λ _. nowhere) (field_of v) ∷ [])) y z j.bunch
      fit y z j e = pairs_fit s.known name (bunch_at s name) (told_field s (λ _. nowhere) (field_of v) ∷ []) bunch_is y z j e

      comes : (z : ℕ) (kz : Known) → s.known z ≡ Some kz → v ≡ val.Ref z → k.bunch ≢ kz.bunch →
          HasStub (fold (with_pair clock) l (pairs_in name (bunch_at s name) (told_field s (λ _. nowhere) (field_of v) ∷ []))).stubs name z k.bunch
      comes z kz e is apart =
          let i : Info = info_of s (λ _. nowhere) z in
          let differ : i.bunch ≢ bunch_at s name =
          (λ q. apart (sym (bunch_is k was) ∙ sym q ∙ ap (λ (o : Option Known). option_map_or (λ (j : Known). j.bunch) o 0) e)) in
          subst (λ (x : Val). HasStub (fold (with_pair clock) l (pairs_in name (bunch_at s name) (told_field s (λ _. nowhere) (field_of x) ∷ []))).stubs name z k.bunch) (sym is)
          (stub_comes clock (pairs_in name (bunch_at s name) (msg_field.Ref i ∷ [])) l name z k.bunch (stub_of name (bunch_at s name) z)
          (pairs_fit s.known name (bunch_at s name) (msg_field.Ref i ∷ []) bunch_is name z k was)
          (pairs_have name (bunch_at s name) (msg_field.Ref i ∷ []) i (first_of (msg_field.Ref i) []) differ) refl)

  -- ## commands

  set_left : (r : ℕ) (v : Val) → ((x : ℕ) → v ≡ val.Ref x → IsSome (s.known x)) → Left st me l clock s.made [] (record s { register = put s.register r v })
  set_left r v fits = record { stand = set st me s.made s.known s.register l.stubs w r v fits; at_most = omega arith }

  -- an answer that shows a value, or whether two are the same
  abbrev IsShown : Answer → Type 0
  IsShown graph.Nil = ⊥
  IsShown (graph.Value v) = Unit {0}
  IsShown graph.Yes = Unit {0}
  IsShown graph.No = Unit {0}
  IsShown graph.Wait = ⊥
  IsShown (graph.Refused why) = ⊥

  answered_left : (changes : List Change) (ps : List Stub) (a : Answer) → (IsShown a → Left st me l clock s.made [] (after_changes s changes)) →
      Left st me l clock s.made ps (after_changes s changes) → After (cond (is_nil (answered changes a).answer) ps []) (answered changes a)
  answered_left changes ps graph.Nil shown done = done
  answered_left changes ps (graph.Value v) shown done = shown tt
  answered_left changes ps graph.Yes shown done = shown tt
  answered_left changes ps graph.No shown done = shown tt
  answered_left changes ps graph.Wait shown done = as_it_was [] refl
  answered_left changes ps (graph.Refused why) shown done = as_it_was [] refl

  either_left : (b : Bool) (ps : List Stub) (o p : Reaction) → After (cond (is_nil o.answer) ps []) o → After (cond (is_nil p.answer) ps []) p →
      After (cond (is_nil (cond b o p).answer) ps []) (cond b o p)
  either_left true ps o p x y = x
  either_left false ps o p x y = y

  refused_left : (why : _) (ps : List Stub) → After (cond (is_nil (refused why).answer) ps []) (refused why)
  refused_left why ps = as_it_was [] refl

  null_refers : (n z : ℕ) → list_any (is_reference_to z) (replicate n field.Null) ≡ true → ⊥
  null_refers zero z e = cc
  null_refers (suc n) z e = null_refers n z e

  own_name : s.made + 1 < 2 ^ 56 → is_some (s.known (next_name me s)) ≡ false
  own_name few = by (s.known (next_name me s)) refl
    where
      by : (o : Option Known) → s.known (next_name me s) ≡ o → is_some o ≡ false
      by None e = refl
      by (Some k) e =
          let mine : maker (name_word me (s.made + 1)) ≡ me = omega (arith, few) in
          let counted : count_of (name_word me (s.made + 1)) ≤ s.made = w.counted (next_name me s) k e mine in
          absurd (omega (arith, few, counted))

  new_left : (register bunch size : ℕ) → s.made + 1 < 2 ^ 56 →
      Left st me l clock s.made [] (after_changes s (graph_changes me s (graph_effect.Makes register bunch size)))
  new_left register bunch size few = record {
    stand = set st me (s.made + 1) (put s.known (next_name me s) (Some (new_object bunch size))) s.register l.stubs
        (added st me s.made s.known s.register l.stubs w (s.made + 1) (next_name me s) (new_object bunch size) (own_name few) (λ z h. null_refers size z h) (omega arith)
        (λ mine. omega (arith, few)))
        register (val.Ref (next_name me s))
        (λ x e. let is : next_name me s ≡ x = cc in
        subst (λ (i : ℕ). IsSome (put s.known (next_name me s) (Some (new_object bunch size)) i)) is
        (ap (λ (o : Option Known). is_some o) (put_same s.known (next_name me s) (Some (new_object bunch size)))));
    at_most = omega arith;
  }

  holding_none : (o : Option ℕ) (hold : _) → pairs_of_effect s (holding o hold) ≡ []
  holding_none None hold = refl
  holding_none (Some name) hold = refl

  not_shown_set : (o : Option ℕ) (index : ℕ) → IsShown (set_answer (seen_graph me s) me o index) → ⊥
  not_shown_set None index h = h
  not_shown_set (Some name) index h = by (is_writer ((seen_graph me s).held me name)) (slice_get (fields_of (seen_graph me s) name) index) h
    where
      by : (b : Bool) (v : Option Val) → IsShown (cond b (set_at v) (graph.Refused refusal.NoToken)) → ⊥
      by true None h = h
      by true (Some v) h = h
      by false v h = h

  not_shown_add : (o : Option ℕ) (index : ℕ) (k : ℤ) → IsShown (add_answer (seen_graph me s) me o index k) → ⊥
  not_shown_add None index k h = h
  not_shown_add (Some name) index k h = by (is_writer ((seen_graph me s).held me name)) (slice_get (fields_of (seen_graph me s) name) index) h
    where
      sum : (o : Option ℤ) → IsShown (add_to o) → ⊥
      sum None h = h
      sum (Some n) h = h

      by : (b : Bool) (v : Option Val) → IsShown (cond b (add_at v k) (graph.Refused refusal.NoToken)) → ⊥
      by true None h = h
      by true (Some v) h = sum (sum_of v k) h
      by false v h = h

  -- a store of what is known, where the command isn't shown
  storing_left : (o : Option ℕ) (index : ℕ) (v : Option Val) (a : Answer) → (IsShown a → ⊥) → ((z : ℕ) (x : Val) → v ≡ Some x → x ≡ val.Ref z → IsSome (s.known z)) →
      After (cond (is_nil (cond (knows s o) (answered (graph_changes me s (storing o index v)) a) (refused refusal.Empty)).answer) (pairs_of_effect s (storing o index v)) [])
      (cond (knows s o) (answered (graph_changes me s (storing o index v)) a) (refused refusal.Empty))
  storing_left None index v a hidden fits = as_it_was [] refl
  storing_left (Some name) index None a hidden fits =
      either_left (knows s (Some name)) [] (answered [] a) (refused refusal.Empty) (answered_left [] [] a (λ h. absurd (hidden h)) (as_it_was [] refl)) (as_it_was [] refl)
  storing_left (Some name) index (Some x) a hidden fits = by (s.known name) refl
    where
      by : (k : Option Known) → s.known name ≡ k →
          After (cond (is_nil (cond (is_some k) (answered (stored name k index x) a) (refused refusal.Empty)).answer) (pairs_in name (bunch_at s name) (told_field s (λ _. nowhere) (field_of x) ∷ [])) [])
          (cond (is_some k) (answered (stored name k index x) a) (refused refusal.Empty))
      by None e = as_it_was [] refl
      by (Some k) e =
          answered_left (stored name (Some k) index x) (pairs_in name (bunch_at s name) (told_field s (λ _. nowhere) (field_of x) ∷ [])) a (λ h. absurd (hidden h))
          (store_left name index x k e (λ z is. fits z x refl is))

  raised_is : (o : Option Val) (k : ℤ) (x : Val) (z : ℕ) → raised_by o k ≡ Some x → x ≡ val.Ref z → ⊥
  raised_is None k x z e is = cc
  raised_is (Some v) k x z e is = by (sum_of v k) e
    where
      by : (n : Option ℤ) → option_map (λ m. val.Int m) n ≡ Some x → ⊥
      by None e = cc
      by (Some m) e = (let same : val.Int m ≡ x = some_same e in let both : val.Int m ≡ val.Ref z = same ∙ is in cc)

  getting_left : (o : Option ℕ) (index register : ℕ) (a : Answer) →
      After (cond (is_nil (cond (knows s o) (answered (graph_changes me s (setting register (field_at (seen_graph me s) o index))) a) (refused refusal.Empty)).answer)
      (pairs_of_effect s (setting register (field_at (seen_graph me s) o index))) [])
      (cond (knows s o) (answered (graph_changes me s (setting register (field_at (seen_graph me s) o index))) a) (refused refusal.Empty))
  getting_left None index register a = as_it_was [] refl
  getting_left (Some name) index register a = by (slice_get (fields_of (seen_graph me s) name) index) refl
    where
      by : (v : Option Val) → slice_get (fields_of (seen_graph me s) name) index ≡ v →
          After (cond (is_nil (cond (knows s (Some name)) (answered (graph_changes me s (setting register v)) a) (refused refusal.Empty)).answer) (pairs_of_effect s (setting register v)) [])
          (cond (knows s (Some name)) (answered (graph_changes me s (setting register v)) a) (refused refusal.Empty))
      by None e =
          either_left (knows s (Some name)) [] (answered [] a) (refused refusal.Empty) (answered_left [] [] a (λ h. as_it_was [] refl) (as_it_was [] refl)) (as_it_was [] refl)
      by (Some v) e =
          let done : Left st me l clock s.made [] (record s { register = put s.register register v }) = set_left register v (λ x is. field_known name index v x e is) in
          either_left (knows s (Some name)) [] (answered (Sets register v ∷ []) a) (refused refusal.Empty) (answered_left (Sets register v ∷ []) [] a (λ h. done) done) (as_it_was [] refl)

  showing_left : (o : Option ℕ) (a : Answer) → After (cond (is_nil (cond (knows s o) (answered [] a) (refused refusal.Empty)).answer) [] []) (cond (knows s o) (answered [] a) (refused refusal.Empty))
  showing_left o a = either_left (knows s o) [] (answered [] a) (refused refusal.Empty) (answered_left [] [] a (λ h. as_it_was [] refl) (as_it_was [] refl)) (as_it_was [] refl)

  command_left : (full : Bool) (lies : ℕ → Place) (c : Command) → IsCommandOf st c → s.made + 1 < 2 ^ 56 →
      After (cond (is_nil (do_rule me s full lies c).answer) (pairs_of_command me s c) []) (do_rule me s full lies c)
  command_left full lies (command.New register bunch size) ok few =
      either_left full [] (refused refusal.Full) (answered (graph_changes me s (graph_effect.Makes register bunch size)) graph.Nil) (as_it_was [] refl) (new_left register bunch size few)
  command_left full lies (command.Copy register value) ok few = set_left register (value_of (seen_graph me s) me value) (λ x e. value_known value x ok.1 e)
  command_left full lies (command.Drop register) ok few = set_left register val.Null (λ x e. cc)
  command_left full lies (command.Read on) ok few =
      token_left lies (Acquires mode.Read) (target_of (seen_graph me s) me on) _ (none_either _ _ (holding_none (target_of (seen_graph me s) me on) (Some mode.Read)))
  command_left full lies (command.Write on) ok few =
      token_left lies (Acquires mode.Write) (target_of (seen_graph me s) me on) _ (none_either _ _ (holding_none (target_of (seen_graph me s) me on) (Some mode.Write)))
  command_left full lies (command.Done on) ok few =
      token_left lies Releases (target_of (seen_graph me s) me on) _ (none_either _ _ (holding_none (target_of (seen_graph me s) me on) None))
  command_left full lies (command.Set on index value) ok few =
      storing_left (target_of (seen_graph me s) me on) index (Some (value_of (seen_graph me s) me value)) (set_answer (seen_graph me s) me (target_of (seen_graph me s) me on) index)
      (not_shown_set (target_of (seen_graph me s) me on) index) (λ z x e is. value_known value z ok.1 (some_same e ∙ is))
  command_left full lies (command.Add on index k) ok few =
      storing_left (target_of (seen_graph me s) me on) index (raised_by (field_at (seen_graph me s) (target_of (seen_graph me s) me on) index) k)
      (add_answer (seen_graph me s) me (target_of (seen_graph me s) me on) index k) (not_shown_add (target_of (seen_graph me s) me on) index k)
      (λ z x e is. absurd (raised_is (field_at (seen_graph me s) (target_of (seen_graph me s) me on) index) k x z e is))
  command_left full lies (command.Get register on index) ok few =
      getting_left (target_of (seen_graph me s) me on) index register (answer_of (seen_graph me s) me (command.Get register on index))
  command_left full lies (command.Show on index) ok few = showing_left (target_of (seen_graph me s) me on) (answer_of (seen_graph me s) me (command.Show on index))
  command_left full lies (command.Same left right) ok few =
      answered_left [] [] (answer_of (seen_graph me s) me (command.Same left right)) (λ h. as_it_was [] refl) (as_it_was [] refl)

-- ## letters

-- once Infos were heard: all that was known is, and what they tell of is known in its bunch
record Heard (st : Setting) (me : ℕ) (s u : NodeState) (stubs : List Stub) (more : List Info) : Type 0 where
  stand : Stand st me u.made u.known u.register stubs
  made : u.made ≡ s.made
  old : (x : ℕ) (j : Known) → s.known x ≡ Some j → u.known x ≡ Some j
  told : (i : Info) → Contains more i → (k : Known) × (u.known i.name ≡ Some k) × (k.bunch ≡ i.bunch)

heard_one : (st : Setting) (me from : ℕ) (s : NodeState) (info : Info) (stubs : List Stub) → Stand st me s.made s.known s.register stubs →
    (maker info.name ≡ me → count_of info.name ≤ s.made) → ((k : Known) → s.known info.name ≡ Some k → k.bunch ≡ info.bunch) →
    Heard st me s (after_change s (Hears from info)) stubs (info ∷ [])
heard_one st me from s info stubs w fits same = by (is_some (s.known info.name)) refl
  where
    only_it : (i : Info) → Contains (info ∷ []) i → info ≡ i
    only_it i c = ⊎_elim (λ here. here) (λ none. absurd (nothing_in i none)) (one_of info i [] c)

    by : (b : Bool) → is_some (s.known info.name) ≡ b → Heard st me s (record s { known = cond b s.known (put s.known info.name (Some (heard_of from info))) }) stubs (info ∷ [])
    by true e = record {
      stand = w;
      made = refl;
      old = λ x j is. is;
      told = λ i c. (let k : (k : Known) × (s.known info.name ≡ Some k) = the_known (s.known info.name) e in
          subst (λ (i : Info). (k : Known) × (s.known i.name ≡ Some k) × (k.bunch ≡ i.bunch)) (only_it i c) (k.0, k.1, same k.0 k.1));
    }
    by false e = record {
      stand = added st me s.made s.known s.register stubs w s.made info.name (heard_of from info) e (λ z h. cc) (omega arith) fits;
      made = refl;
      old = λ x j is. stays x j is (two info.name x);
      told = λ i c. subst (λ (i : Info). (k : Known) × (put s.known info.name (Some (heard_of from info)) i.name ≡ Some k) × (k.bunch ≡ i.bunch)) (only_it i c)
          (heard_of from info, put_same s.known info.name (Some (heard_of from info)), refl);
    }
      where
        stays : (x : ℕ) (j : Known) → s.known x ≡ Some j → Two info.name x → put s.known info.name (Some (heard_of from info)) x ≡ Some j
        stays x j is (Same at) = absurd (clash (is_some (s.known info.name)) (ap (λ (o : Option Known). is_some o) (ap s.known at ∙ is)) e)
        stays x j is (Apart other differ) = put_apart s.known info.name x (Some (heard_of from info)) other ∙ is

-- an Info that doesn't clash tells the bunch that is known
same_bunch : (k : Known) (info : Info) → differs k info ≡ false → k.bunch ≡ info.bunch
same_bunch k info e = by (k.bunch == info.bunch) (k.size == info.size) refl e
  where
    by : (a b : Bool) → (k.bunch == info.bunch) ≡ a → not (a && b) ≡ false → k.bunch ≡ info.bunch
    by true b is e = eqb_is k.bunch info.bunch is
    by false b is e = cc

heard_all : (st : Setting) (me from : ℕ) (more : List Info) (s : NodeState) (a : Places) (stubs : List Stub) → Stand st me s.made s.known s.register stubs →
    ((i : Info) → Contains more i → maker i.name ≡ me → count_of i.name ≤ s.made) → some_clash me from s.known a more ≡ false →
    Heard st me s (after_changes s (map (Hears from) more)) stubs more
heard_all st me from [] s a stubs w fits none = record { stand = w; made = refl; old = λ x j e. e; told = λ i c. absurd (nothing_in i c) }
heard_all st me from (info ∷ more) s a stubs w fits none =
    let split : (clashes me s.known a info ≡ false) × (some_clash me from (heard from s.known info) (with_learnt a info) more ≡ false) =
    neither (clashes me s.known a info) (some_clash me from (heard from s.known info) (with_learnt a info) more) none in
    let one : Heard st me s (after_change s (Hears from info)) stubs (info ∷ []) =
    heard_one st me from s info stubs w (fits info (first_of info more)) (λ k e. same_bunch k info (fitting k e split.0)) in
    let rest : Heard st me (after_change s (Hears from info)) (after_changes (after_change s (Hears from info)) (map (Hears from) more)) stubs more =
    heard_all st me from more (after_change s (Hears from info)) (with_learnt a info) stubs one.stand (λ i c. fits i (behind info i more c)) split.1 in
    record {
      stand = rest.stand;
      made = rest.made;
      old = λ x j e. rest.old x j (one.old x j e);
      told = λ i c. ⊎_elim
          (λ here. let t : (k : Known) × ((after_change s (Hears from info)).known info.name ≡ Some k) × (k.bunch ≡ info.bunch) = one.told info (first_of info []) in
          subst (λ (i : Info). (k : Known) × ((after_changes (after_change s (Hears from info)) (map (Hears from) more)).known i.name ≡ Some k) × (k.bunch ≡ i.bunch)) here
          (t.0, rest.old info.name t.0 t.1, t.2))
          (rest.told i)
          (one_of info i more c);
    }
  where
    fitting : (k : Known) → s.known info.name ≡ Some k → clashes me s.known a info ≡ false → differs k info ≡ false
    fitting k e none = by (differs k info) (clashes_place) refl (sym (ap (λ (o : Option Known). option_map_or (λ (j : Known). differs j info) o false || clashes_place) e) ∙ none)
      where
        clashes_place : Bool
        clashes_place = clashes_at me a info (a.place info.name)

        by : (x y : Bool) → differs k info ≡ x → (x || y) ≡ false → x ≡ false
        by false y is e = refl
        by true y is e = cc

heard_refers : (fields : List Field) (z : ℕ) → list_any (is_reference_to z) (map heard_field fields) ≡ true → (i : Info) × Contains fields (msg_field.Ref i) × (i.name ≡ z)
heard_refers [] z e = cc
heard_refers (f ∷ fields) z e = by f e (heard_refers fields z)
  where
    by : (f : Field) → (is_reference_to z (heard_field f) || list_any (is_reference_to z) (map heard_field fields)) ≡ true →
        (list_any (is_reference_to z) (map heard_field fields) ≡ true → (i : Info) × Contains fields (msg_field.Ref i) × (i.name ≡ z)) →
        (i : Info) × Contains (f ∷ fields) (msg_field.Ref i) × (i.name ≡ z)
    by msg_field.Null e rest = (let it : (i : Info) × Contains fields (msg_field.Ref i) × (i.name ≡ z) = rest e in (it.0, behind msg_field.Null (msg_field.Ref it.0) fields it.1, it.2))
    by (msg_field.Int k) e rest = (let it : (i : Info) × Contains fields (msg_field.Ref i) × (i.name ≡ z) = rest e in (it.0, behind (msg_field.Int k) (msg_field.Ref it.0) fields it.1, it.2))
    by (msg_field.Ref i) e rest = here (i.name == z) refl e
      where
        here : (b : Bool) → (i.name == z) ≡ b → (b || list_any (is_reference_to z) (map heard_field fields)) ≡ true → (j : Info) × Contains (msg_field.Ref i ∷ fields) (msg_field.Ref j) × (j.name ≡ z)
        here true is e = (i, first_of (msg_field.Ref i) fields, eqb_is i.name z is)
        here false is e = (let it : (j : Info) × Contains fields (msg_field.Ref j) × (j.name ≡ z) = rest e in (it.0, behind (msg_field.Ref i) (msg_field.Ref it.0) fields it.1, it.2))

infos_have : (fields : List Field) (i : Info) → Contains fields (msg_field.Ref i) → Contains (filter_map info_in fields) i
infos_have [] i c = absurd (nothing_in (msg_field.Ref i) c)
infos_have (f ∷ fields) i c = ⊎_elim
    (λ here. subst (λ (g : Field). Contains (cons_option (info_in g) (filter_map info_in fields)) i) (sym here) (first_of i (filter_map info_in fields)))
    (λ there. later (info_in f) (infos_have fields i there))
    (one_of f (msg_field.Ref i) fields c)
  where
    later : (o : Option Info) → Contains (filter_map info_in fields) i → Contains (cons_option o (filter_map info_in fields)) i
    later None c = c
    later (Some x) c = behind x i (filter_map info_in fields) c

module _ (st : Setting) (me : ℕ) (s u : NodeState) (l : Links) (clock name : ℕ) where
  -- of no grant: an entry has no more references
  plain_left : (k : Option Known) (h : Option Share) → k ≡ s.known name → Heard st me s u l.stubs [] →
      Left st me l clock s.made [] (after_changes u (known_change name k (option_map_or (λ (j : Known). j.copy) k None) h))
  plain_left None h at heard = record { stand = heard.stand; at_most = (let e : u.made ≡ s.made = heard.made in omega (arith, e)) }
  plain_left (Some k) None at heard = record { stand = heard.stand; at_most = (let e : u.made ≡ s.made = heard.made in omega (arith, e)) }
  plain_left (Some k) (Some h) at heard =
      let was : u.known name ≡ Some k = heard.old name k (sym at) in
      record {
        stand = replaced st me u.made u.known u.register l.stubs heard.stand l.stubs name k (with_share k k.copy h) was refl
            (λ z e. heard.stand.targets name z k was (fewer h.copy z e)) (λ z kz ez e apart. heard.stand.pairs name z k kz was ez (fewer h.copy z e) apart) (λ y z j e x. x);
        at_most = (let e : u.made ≡ s.made = heard.made in omega (arith, e));
      }
    where
      fewer : (c : Bool) (z : ℕ) → option_map_or (list_any (is_reference_to z)) (cond c k.copy None) false ≡ true → holds k z ≡ true
      fewer true z e = e
      fewer false z e = cc

  -- of a grant: what its fields refer to was heard of, and gets its pairs
  grant_left : (info : Info) (fields : List Field) (k : Option Known) (h : Option Share) → info.name ≡ name → k ≡ s.known name →
      Heard st me s u l.stubs (info ∷ filter_map info_in fields) →
      Left st me l clock s.made (pairs_in info.name info.bunch fields) (after_changes u (known_change name k (Some (map heard_field fields)) h))
  grant_left info fields k h named at heard = by k h at
    where
      bunch_is : (j : Known) → u.known info.name ≡ Some j → info.bunch ≡ j.bunch
      bunch_is j e =
          let t : (k : Known) × (u.known info.name ≡ Some k) × (k.bunch ≡ info.bunch) = heard.told info (first_of info (filter_map info_in fields)) in
          sym t.2 ∙ ap (λ (i : Known). i.bunch) (some_same (sym t.1 ∙ e))

      fit : (y z : ℕ) (j : Known) → u.known y ≡ Some j → Fit (pairs_in info.name info.bunch fields) y z j.bunch
      fit y z j e = pairs_fit u.known info.name info.bunch fields bunch_is y z j e

      stays : (y z : ℕ) (j : Known) → u.known y ≡ Some j → HasStub l.stubs y z j.bunch → HasStub (fold (with_pair clock) l (pairs_in info.name info.bunch fields)).stubs y z j.bunch
      stays y z j e x = stubs_stay clock (pairs_in info.name info.bunch fields) l y z j.bunch (fit y z j e) x

      as_heard : Left st me l clock s.made (pairs_in info.name info.bunch fields) u
      as_heard = record {
        stand = restubbed st me u.made u.known u.register l.stubs heard.stand (fold (with_pair clock) l (pairs_in info.name info.bunch fields)).stubs stays;
        at_most = (let e : u.made ≡ s.made = heard.made in omega (arith, e));
      }

      told : (z : ℕ) (j : Info) → Contains fields (msg_field.Ref j) → j.name ≡ z → (k : Known) × (u.known z ≡ Some k) × (k.bunch ≡ j.bunch)
      told z j c is =
          let t : (k : Known) × (u.known j.name ≡ Some k) × (k.bunch ≡ j.bunch) = heard.told j (behind info j (filter_map info_in fields) (infos_have fields j c)) in
          (t.0, ap u.known (sym is) ∙ t.1, t.2)

      by : (k : Option Known) (h : Option Share) → k ≡ s.known name →
          Left st me l clock s.made (pairs_in info.name info.bunch fields) (after_changes u (known_change name k (Some (map heard_field fields)) h))
      by None h at = as_heard
      by (Some k) None at = as_heard
      by (Some k) (Some h) at =
          let was : u.known name ≡ Some k = heard.old name k (sym at) in
          record {
            stand = replaced st me u.made u.known u.register l.stubs heard.stand (fold (with_pair clock) l (pairs_in info.name info.bunch fields)).stubs name k
                (with_share k (Some (map heard_field fields)) h) was refl
                (λ z e. let it : (j : Info) × Contains fields (msg_field.Ref j) × (j.name ≡ z) = refers h.copy z e in
                let t : (k : Known) × (u.known z ≡ Some k) × (k.bunch ≡ it.0.bunch) = told z it.0 it.1 it.2 in
                ap (λ (o : Option Known). is_some o) t.1)
                (λ z kz ez e apart. comes z kz ez (refers h.copy z e) was apart) stays;
            at_most = (let e : u.made ≡ s.made = heard.made in omega (arith, e));
          }
        where
          refers : (c : Bool) (z : ℕ) → option_map_or (list_any (is_reference_to z)) (cond c (Some (map heard_field fields)) None) false ≡ true →
              (j : Info) × Contains fields (msg_field.Ref j) × (j.name ≡ z)
          refers true z e = heard_refers fields z e
          refers false z e = cc

          comes : (z : ℕ) (kz : Known) → u.known z ≡ Some kz → (j : Info) × Contains fields (msg_field.Ref j) × (j.name ≡ z) → u.known name ≡ Some k → k.bunch ≢ kz.bunch →
              HasStub (fold (with_pair clock) l (pairs_in info.name info.bunch fields)).stubs name z k.bunch
          comes z kz ez it was apart =
              let t : (k : Known) × (u.known z ≡ Some k) × (k.bunch ≡ it.0.bunch) = told z it.0 it.1 it.2 in
              let kz_is : kz.bunch ≡ it.0.bunch = ap (λ (i : Known). i.bunch) (some_same (sym ez ∙ t.1)) ∙ t.2 in
              let k_is : info.bunch ≡ k.bunch = bunch_is k (ap u.known named ∙ was) in
              stub_comes clock (pairs_in info.name info.bunch fields) l name z k.bunch (stub_of info.name info.bunch it.0.name) (fit name z k was)
              (pairs_have info.name info.bunch fields it.0 it.1 (λ e. apart (sym k_is ∙ sym e ∙ sym kz_is)))
              (λ q. record { source = named q; target = it.2 q })

-- no element of a list passes
none_passes : {X : Type 0} (p : X → Bool) (xs : List X) (x : X) → list_any p xs ≡ false → Contains xs x → p x ≡ false
none_passes p [] x e c = absurd (nothing_in x c)
none_passes p (y ∷ xs) x e c =
    let split : (p y ≡ false) × (list_any p xs ≡ false) = neither (p y) (list_any p xs) e in
    ⊎_elim (λ here. sym (ap p here) ∙ split.0) (λ there. none_passes p xs x split.1 there) (one_of y x xs c)

-- a name of a node's own in a letter that isn't bad was made
own_made : (st : Setting) (me : ℕ) (s : NodeState) (i : Info) → is_bad_info st me s i ≡ false → maker i.name ≡ me → count_of i.name ≤ s.made
own_made st me s i e mine =
    let a : ((((is_no_name st me s i.name || nat_le (bunches_of st.births) i.bunch) || is_no_node st (home_of i.place.address)) || nat_lt 32 i.size) ≡ false) × (nat_le too_large i.place.moves ≡ false) =
    neither (((is_no_name st me s i.name || nat_le (bunches_of st.births) i.bunch) || is_no_node st (home_of i.place.address)) || nat_lt 32 i.size) (nat_le too_large i.place.moves) e in
    let b : (((is_no_name st me s i.name || nat_le (bunches_of st.births) i.bunch) || is_no_node st (home_of i.place.address)) ≡ false) × (nat_lt 32 i.size ≡ false) =
    neither ((is_no_name st me s i.name || nat_le (bunches_of st.births) i.bunch) || is_no_node st (home_of i.place.address)) (nat_lt 32 i.size) a.0 in
    let c : ((is_no_name st me s i.name || nat_le (bunches_of st.births) i.bunch) ≡ false) × (is_no_node st (home_of i.place.address) ≡ false) =
    neither (is_no_name st me s i.name || nat_le (bunches_of st.births) i.bunch) (is_no_node st (home_of i.place.address)) b.0 in
    let d : (is_no_name st me s i.name ≡ false) × (nat_le (bunches_of st.births) i.bunch ≡ false) = neither (is_no_name st me s i.name) (nat_le (bunches_of st.births) i.bunch) c.0 in
    let f : (is_no_node st (maker i.name) ≡ false) × ((maker i.name == me && nat_lt s.made (count_of i.name)) ≡ false) =
    neither (is_no_node st (maker i.name)) (maker i.name == me && nat_lt s.made (count_of i.name)) d.0 in
    by (maker i.name == me) (nat_lt s.made (count_of i.name)) (eqb_of mine) refl f.1
  where
    by : (x y : Bool) → x ≡ true → nat_lt s.made (count_of i.name) ≡ y → (x && y) ≡ false → count_of i.name ≤ s.made
    by true false t is e = grind (arith, nat_tests, is)
    by true true t is e = cc
    by false y t is e = cc

module _ (st : Setting) (me : ℕ) (s : NodeState) (l : Links) (clock : ℕ) (w : Stand st me s.made s.known s.register l.stubs) where
  unchanged_left : Left st me l clock s.made [] s
  unchanged_left = record { stand = w; at_most = omega arith }

  -- what a message leaves, once its Infos were heard
  message_left : (u : NodeState) (m : Msg) (h : Option Share) → Heard st me s u l.stubs (infos m) →
      Left st me l clock s.made (pairs_of_message m) (after_changes u (known_change (name_in m) (s.known (name_in m)) (copy_after m (s.known (name_in m))) h))
  message_left u (msg.ReadReq name asker) h heard = plain_left st me s u l clock name (s.known name) h refl heard
  message_left u (msg.WriteReq name asker) h heard = plain_left st me s u l clock name (s.known name) h refl heard
  message_left u (msg.ReadGrant info fields) h heard = grant_left st me s u l clock info.name info fields (s.known info.name) h refl refl heard
  message_left u (msg.WriteGrant info fields) h heard = grant_left st me s u l clock info.name info fields (s.known info.name) h refl refl heard
  message_left u (msg.Inval name) h heard = plain_left st me s u l clock name (s.known name) h refl heard
  message_left u (msg.InvAck name) h heard = plain_left st me s u l clock name (s.known name) h refl heard

  got_left : (xs : List Stub) (v : NodeState) (from seq name : ℕ) (n : Note) → Left st me l clock s.made xs v → Left st me l clock s.made xs (after_changes v (got_change from seq name n ++ Takes from ∷ []))
  got_left xs v from seq name (Asks m asker) x = record { stand = x.stand; at_most = x.at_most }
  got_left xs v from seq name (Grants mode.Read) x = record { stand = x.stand; at_most = x.at_most }
  got_left xs v from seq name (Grants mode.Write) x = record { stand = x.stand; at_most = x.at_most }
  got_left xs v from seq name Recalls x = record { stand = x.stand; at_most = x.at_most }
  got_left xs v from seq name Returns x = record { stand = x.stand; at_most = x.at_most }

  took_left : (lies : ℕ → Place) (from seq : ℕ) (m : Msg) (t : Option Transition) → Heard st me s (after_changes s (map (Hears from) (infos m))) l.stubs (infos m) →
      Left st me l clock s.made (cond (is_taken (took s lies from seq m (s.known (name_in m)) t).answer) (pairs_of_message m) []) (after_changes s (took s lies from seq m (s.known (name_in m)) t).changes)
  took_left lies from seq m None heard = unchanged_left
  took_left lies from seq m (Some t) heard =
      subst (Left st me l clock s.made (pairs_of_message m))
      (sym (after_append s (map (Hears from) (infos m)) (known_change (name_in m) (s.known (name_in m)) (copy_after m (s.known (name_in m))) t.after ++ (got_change from seq (name_in m) (note_in m) ++ Takes from ∷ []))
      ∙ after_append (after_changes s (map (Hears from) (infos m))) (known_change (name_in m) (s.known (name_in m)) (copy_after m (s.known (name_in m))) t.after)
      (got_change from seq (name_in m) (note_in m) ++ Takes from ∷ [])))
      (got_left (pairs_of_message m) _ from seq (name_in m) (note_in m) (message_left (after_changes s (map (Hears from) (infos m))) m t.after heard))

  letter_left : (t : Told) (a : Places) (from : ℕ) (letter : Letter) → t.clash ≡ some_clash me from s.known a (infos letter.msg) →
      Left st me l clock s.made (cond (is_taken (letter_rule st me s t from letter).answer) (pairs_of_message letter.msg) []) (after_changes s (letter_rule st me s t from letter).changes)
  letter_left t a from letter clash_is = by (is_bad_letter st me s from letter || t.clash) refl
    where
      by : (b : Bool) → (is_bad_letter st me s from letter || t.clash) ≡ b →
          Left st me l clock s.made (cond (is_taken (cond b (only answer.Stray) (take_rule me s t.lies from letter.seq letter.msg)).answer) (pairs_of_message letter.msg) [])
          (after_changes s (cond b (only answer.Stray) (take_rule me s t.lies from letter.seq letter.msg)).changes)
      by true e = unchanged_left
      by false e =
          let split : (is_bad_letter st me s from letter ≡ false) × (t.clash ≡ false) = neither (is_bad_letter st me s from letter) t.clash e in
          let good : ((((from == me || is_no_node st from) || not (letter.seq == s.taken from + 1)) || nat_le too_large letter.stamp) ≡ false) × (is_bad_msg st me s letter.msg ≡ false) =
          neither (((from == me || is_no_node st from) || not (letter.seq == s.taken from + 1)) || nat_le too_large letter.stamp) (is_bad_msg st me s letter.msg) split.0 in
          took_left t.lies from letter.seq letter.msg _
          (heard_all st me from (infos letter.msg) s a l.stubs w (λ i c. own_made st me s i (none_passes (is_bad_info st me s) (infos letter.msg) i (infos_good letter.msg good.1) c))
          (sym clash_is ∙ split.1))
        where
          infos_good : (m : Msg) → is_bad_msg st me s m ≡ false → list_any (is_bad_info st me s) (infos m) ≡ false
          infos_good m e =
              (neither ((is_no_name st me s (name_in m) || option_map_or (is_no_node st) (asker_in m) false) || option_map_or (λ (g : Info × List Field). not (length g.1 == g.0.size)) (grant_in m) false)
              (list_any (is_bad_info st me s) (infos m)) e).1

  -- ## every input

  pub rule_left : (a : Places) (t : Told) (i : Input) → IsInputOf st i → IsTold st me (record { state = s; places = a }) i t → s.made + 1 < 2 ^ 56 →
      Left st me l clock s.made (pairs_of me s i (rule st me s t i).answer) (after_changes s (rule st me s t i).changes)
  rule_left a t (input.Do c) ok told few = command_left st me s l clock w t.full t.lies c ok few
  rule_left a t (input.Serve name) ok told few = operation_left st me s l clock w t.lies Serves answer.Idle name [] refl
  rule_left a t (input.Take from letter) ok told few = letter_left t a from letter told.clash
