-- What nodes have at first is what the rules say of an opening, and keeps what a node keeps.
use Rattle.std.proofs.Common.{◌≡◌, inl, inr, ℕ, ◌+◌, ◌<◌, ◌≤◌, arith, refl, ap, sym, subst, ◌∙◌, Bool, true, false, cond, List, [], ◌∷◌, zero, suc, length, IsSome}
use Rattle.std.specs.Prelude.{◌==◌, ◌&&◌, nat_lt, Option, Some, None, slice_get, unwrap_or, is_some}
use Rattle.std.specs.Option.{option_map, option_map_or}
use Rattle.std.proofs.Math.Path.{fun_ext}
use Rattle.std.proofs.lemmas.Bool.Decides.{nat_tests}
use Rattle.bmx_types.specs.Words.{name_word}
use Rattle.bmx_types.specs.Openings.{bunches_of}
use Rattle.bmx_types.specs.declared.openings.Birth.{Birth}
use Rattle.bmx_types.specs.declared.openings.Opening.{Opening}
use Rattle.bmx_token.specs.declared.parts.Part.{Part}
use Rattle.bmx_token.specs.declared.parts.Role.TheVariants.{Owner}
use Rattle.bmx_token.specs.Tokens.{owner_part, child_part}
use Rattle.bmx_tokens.specs.Tables.{part_of, part_at}
use Rattle.bmx_protocol.specs.Nodes.{Setting, is_anchor, birth_of, owned_birth, heard_birth, first_known, first_entering}
use Rattle.bmx_protocol.specs.Places.{first_places, no_places}
use Rattle.bmx_protocol.proofs.Basics.{none_some, some_same, eqb_apart}
use Rattle.bmx_protocol.proofs.Births.{In, found}
use Rattle.bmx_memory.specs.Shown.{Object, shown, known_as, known_with}
use Rattle.bmx_mail.specs.Mails.{entering_of, issued_of, taken_of}
use Rattle.bmx_node.specs.declared.holdings.Holdings.{Holdings}
use Rattle.bmx_node.specs.Openings.{setting_of}
use Rattle.bmx_node.specs.Seen.{state_of, places_of, limit_of}
use Rattle.bmx_node.specs.Inside.Keeping.{IsFit, Agree}
use Rattle.bmx_node.specs.Inside.Births.{owner_shown, born_object, heard_object}
use Rattle.bmx_node.specs.Inside.Others.{heard_memory, Opens}
use Rattle.bmx_node.proofs.Fitting.{no_owner, fit_owner, fit_child}
use Rattle.bmx_node.proofs.Firsts.{is_in, is_out, born}

-- ## names of births

names_within : (bs : List Birth) (k : ℕ) (b : Birth) → ((i : ℕ) (c : Birth) → slice_get bs i ≡ Some c → c.name ≡ k + i + 1) → In b bs → b.name ≤ k + length bs
names_within [] k b named there = absurd there
names_within (c ∷ bs) k b named (inl e) = (let first : c.name ≡ k + 0 + 1 = named 0 c refl in omega (arith, ap (λ (z : Birth). z.name) e))
names_within (c ∷ bs) k b named (inr there) = omega (arith, names_within bs (k + 1) b (λ i d e. (let is : d.name ≡ k + suc i + 1 = named (suc i) d e in omega arith)) there)

is_there : (bs : List Birth) (i : ℕ) → i < length bs → slice_get bs i ≡ None → ⊥
is_there [] i lt e = omega (arith, lt)
is_there (b ∷ bs) zero lt e = none_some (sym e)
is_there (b ∷ bs) (suc i) lt e = is_there bs i (omega (arith, lt)) e

in_got : (bs : List Birth) (i : ℕ) (b : Birth) → slice_get bs i ≡ Some b → In b bs
in_got [] i b e = none_some e
in_got (c ∷ bs) zero b e = inl (some_same e)
in_got (c ∷ bs) (suc i) b e = inr (in_got bs i b e)

module _ (o : Opening) where
  abbrev st : Setting
  st = setting_of o

  -- no birth has a name beyond them
  no_birth : (x : ℕ) → length o.births < x → birth_of st x ≡ None
  no_birth x beyond = by_birth (birth_of st x) refl
    where
      by_birth : (c : Option Birth) → birth_of st x ≡ c → c ≡ None
      by_birth None e = refl
      by_birth (Some b) e =
          let f = found o.births x b e in
          let most : b.name ≤ 0 + length o.births = names_within o.births 0 b (λ i c g. (let is : c.name ≡ i + 1 = o.opened.born.named i c g in omega arith)) f.0 in
          absurd (omega (arith, most, f.1, beyond))

  -- each anchor is born
  anchor_born : (bunch : ℕ) → bunch < bunches_of o.births → IsSome (birth_of st (bunch + 1))
  anchor_born bunch below = by_birth (slice_get o.births bunch) refl
    where
      by_birth : (c : Option Birth) → slice_get o.births bunch ≡ c → IsSome (birth_of st (bunch + 1))
      by_birth None e = absurd (is_there o.births bunch (omega (arith, below, o.opened.born.anchors)) e)
      by_birth (Some b) e = subst IsSome (sym (ap (birth_of st) (sym (o.opened.born.named bunch b e)) ∙ born o b (in_got o.births bunch b e))) refl

  -- ## node 0

  module _ (part : ℕ → Option Part) (parts : (name : ℕ) → part name ≡ option_map (λ b. owner_part) (birth_of st name)) where
    owner_known : known_with (λ name. option_map born_object (birth_of st name)) (λ name. unwrap_or (part name) owner_part) ≡ first_known st 0
    owner_known = fun_ext (λ name. ap (λ p. option_map (known_as (unwrap_or p owner_part)) (option_map born_object (birth_of st name))) (parts name) ∙ by_birth (birth_of st name))
      where
        by_birth : (c : Option Birth) → option_map (known_as (unwrap_or (option_map (λ b. owner_part) c) owner_part)) (option_map born_object c) ≡ option_map owned_birth c
        by_birth None = refl
        by_birth (Some b) = refl

    owner_agrees : Agree 0 (length o.births) (bunches_of o.births) (λ name. option_map born_object (birth_of st name)) part
    owner_agrees = record {
      same = λ name. ap is_some (parts name) ∙ same (birth_of st name);
      fit = λ name p e. fit (birth_of st name) p (sym (parts name) ∙ e);
      owners = λ name p e own. owners (birth_of st name) p (sym (parts name) ∙ e);
      fresh = λ count above below. ap (option_map born_object) (no_birth (name_word 0 count) (omega (arith, above)));
      anchors = λ bunch below. known (birth_of st (bunch + 1)) (anchor_born bunch below);
    }
      where
        same : (c : Option Birth) → is_some (option_map (λ b. owner_part) c) ≡ is_some (option_map born_object c)
        same None = refl
        same (Some b) = refl

        fit : (c : Option Birth) (p : Part) → option_map (λ b. owner_part) c ≡ Some p → IsFit p
        fit None p e = none_some e
        fit (Some b) p e = subst IsFit (some_same e) fit_owner

        owners : (c : Option Birth) (p : Part) → option_map (λ b. owner_part) c ≡ Some p → option_map_or (λ (k : Object). is_some k.copy) (option_map born_object c) false ≡ true
        owners None p e = none_some e
        owners (Some b) p e = refl

        known : (c : Option Birth) → IsSome c → IsSome (option_map born_object c)
        known None h = h
        known (Some b) h = refl

  pub owner_opens : (h : Holdings) → h.store.nodes ≡ o.nodes → h.store.bunches ≡ bunches_of o.births → h.me ≡ 0 → shown h.memory ≡ owner_shown st →
      h.tokens.me ≡ 0 → ((name : ℕ) → part_of h.tokens name ≡ option_map (λ b. owner_part) (birth_of st name)) →
      entering_of h.mail ≡ first_entering st 0 → issued_of h.mail ≡ (λ m. 0) → taken_of h.mail ≡ (λ m. 0) →
      h.clock ≡ 0 → h.made ≡ length o.births → Opens st 0 h
  unfolding state_of places_of limit_of
  owner_opens h nodes bunches me shows tokens parts entering issued taken clock made = record {
    node = λ j. record {
      state = record {
        known = known j;
        register = (shows j).register;
        entering = entering j;
        issued = issued j;
        taken = taken j;
        clock = clock j;
        made = made j;
      };
      places = (shows j).places;
    };
    is_me = me;
    suits = record { nodes = sym nodes; bunches = sym bunches; limit = ap (λ s. s.limit) (sym shows) };
    keeps = record {
      me = ap (λ s. s.me) shows ∙ sym me;
      tokens = tokens ∙ sym me;
      few = omega (arith, made, o.opened.born.few);
      agree = subst (λ object. Agree h.me h.made h.store.bunches object (part_of h.tokens)) (ap (λ s. s.object) (sym shows))
          (subst (λ n. Agree h.me h.made n (λ name. option_map born_object (birth_of st name)) (part_of h.tokens)) (sym bunches)
          (subst (λ n. Agree h.me n (bunches_of o.births) (λ name. option_map born_object (birth_of st name)) (part_of h.tokens)) (sym made)
          (subst (λ n. Agree n (length o.births) (bunches_of o.births) (λ name. option_map born_object (birth_of st name)) (part_of h.tokens)) (sym me) (owner_agrees (part_of h.tokens) parts))));
    };
    few = omega (arith, made, o.opened.born.few);
  }
    where
      known : known_with (shown h.memory).object (part_at h.tokens) ≡ first_known st 0
      known = ap (λ s. known_with s.object (part_at h.tokens)) shows ∙ owner_known (part_of h.tokens) parts

  -- ## another node

  abbrev object_heard : ℕ → Option Object
  object_heard name = cond (is_anchor st name) (option_map heard_object (birth_of st name)) None

  abbrev part_heard : ℕ → Option Part
  part_heard name = cond (is_anchor st name) (option_map (λ b. child_part 0) (birth_of st name)) None

  module _ (me : ℕ) (other : 0 < me) (inside : me < o.nodes) (part : ℕ → Option Part) (parts : (name : ℕ) → part name ≡ part_heard name) where
    isnt_first : (me == 0) ≡ false
    isnt_first = eqb_apart me 0 (omega (arith, other))

    is_node : nat_lt me o.nodes ≡ true
    is_node = grind (arith, nat_tests)

    heard_known : known_with object_heard (λ name. unwrap_or (part name) owner_part) ≡ first_known st me
    heard_known = fun_ext (λ name. ap (λ p. option_map (known_as (unwrap_or p owner_part)) (object_heard name)) (parts name) ∙ by_birth (is_anchor st name) (birth_of st name)
        ∙ sym (λ j. cond (isnt_first j) (option_map owned_birth (birth_of st name)) (cond (is_node j && is_anchor st name) (option_map heard_birth (birth_of st name)) None)))
      where
        by_birth : (a : Bool) (c : Option Birth) →
            option_map (known_as (unwrap_or (cond a (option_map (λ b. child_part 0) c) None) owner_part)) (cond a (option_map heard_object c) None) ≡ cond (true && a) (option_map heard_birth c) None
        by_birth true None = refl
        by_birth true (Some b) = refl
        by_birth false c = refl

    heard_agrees : Agree me 0 (bunches_of o.births) object_heard part
    heard_agrees = record {
      same = λ name. ap is_some (parts name) ∙ same (is_anchor st name) (birth_of st name);
      fit = λ name p e. fit (is_anchor st name) (birth_of st name) p (sym (parts name) ∙ e);
      owners = λ name p e own. owners (is_anchor st name) (birth_of st name) p (sym (parts name) ∙ e) own;
      fresh = λ count above below. ap (λ a. cond a (option_map heard_object (birth_of st (name_word me count))) None)
          (is_out (name_word me count) (bunches_of o.births) (omega (arith, other, o.opened.born.bunches)));
      anchors = λ bunch below. subst (λ a. IsSome (cond a (option_map heard_object (birth_of st (bunch + 1))) None)) (sym (is_in (bunch + 1) (bunches_of o.births) (omega arith) (omega (arith, below))))
          (known (birth_of st (bunch + 1)) (anchor_born bunch below));
    }
      where
        same : (a : Bool) (c : Option Birth) → is_some (cond a (option_map (λ b. child_part 0) c) None) ≡ is_some (cond a (option_map heard_object c) None)
        same true None = refl
        same true (Some b) = refl
        same false c = refl

        fit : (a : Bool) (c : Option Birth) (p : Part) → cond a (option_map (λ b. child_part 0) c) None ≡ Some p → IsFit p
        fit true None p e = none_some e
        fit true (Some b) p e = subst IsFit (some_same e) (fit_child 0)
        fit false c p e = none_some e

        owners : (a : Bool) (c : Option Birth) (p : Part) → cond a (option_map (λ b. child_part 0) c) None ≡ Some p → p.role ≡ Owner →
            option_map_or (λ (k : Object). is_some k.copy) (cond a (option_map heard_object c) None) false ≡ true
        owners true None p e own = none_some e
        owners true (Some b) p e own = absurd (no_owner 0 (ap (λ (q : Part). q.role) (some_same e) ∙ own))
        owners false c p e own = none_some e

        known : (c : Option Birth) → IsSome c → IsSome (option_map heard_object c)
        known None h = h
        known (Some b) h = refl

  pub heard_opens : (h : Holdings) (me : ℕ) → 0 < me → me < o.nodes → h.store.nodes ≡ o.nodes → h.store.bunches ≡ bunches_of o.births → h.me ≡ me → shown h.memory ≡ heard_memory me st →
      h.tokens.me ≡ me → ((name : ℕ) → part_of h.tokens name ≡ cond (is_anchor st name) (option_map (λ b. child_part 0) (birth_of st name)) None) →
      entering_of h.mail ≡ first_entering st me → issued_of h.mail ≡ (λ m. 0) → taken_of h.mail ≡ (λ m. 0) →
      h.clock ≡ 0 → h.made ≡ 0 → Opens st me h
  unfolding state_of places_of limit_of
  heard_opens h me other inside nodes bunches is_me shows tokens parts entering issued taken clock made = record {
    node = λ j. record {
      state = record {
        known = known j;
        register = (shows j).register;
        entering = entering j;
        issued = issued j;
        taken = taken j;
        clock = clock j;
        made = none_made j;
      };
      places = places j;
    };
    is_me = is_me;
    suits = record { nodes = sym nodes; bunches = sym bunches; limit = ap (λ s. s.limit) (sym shows) };
    keeps = record {
      me = ap (λ s. s.me) shows ∙ sym is_me;
      tokens = tokens ∙ sym is_me;
      few = omega (arith, made);
      agree = subst (λ object. Agree h.me h.made h.store.bunches object (part_of h.tokens)) (ap (λ s. s.object) (sym shows))
          (subst (λ n. Agree h.me h.made n object_heard (part_of h.tokens)) (sym bunches)
          (subst (λ n. Agree h.me n (bunches_of o.births) object_heard (part_of h.tokens)) (sym made)
          (subst (λ n. Agree n 0 (bunches_of o.births) object_heard (part_of h.tokens)) (sym is_me) (heard_agrees me other inside (part_of h.tokens) parts))));
    };
    few = omega (arith, made);
  }
    where
      not_first : (me == 0) ≡ false
      not_first = isnt_first me other inside (part_of h.tokens) parts

      is_inside : nat_lt me o.nodes ≡ true
      is_inside = is_node me other inside (part_of h.tokens) parts

      known : known_with (shown h.memory).object (part_at h.tokens) ≡ first_known st me
      known = ap (λ s. known_with s.object (part_at h.tokens)) shows ∙ heard_known me other inside (part_of h.tokens) parts

      places : (shown h.memory).places ≡ first_places st me
      places = ap (λ s. s.places) shows ∙ sym (λ j. cond (not_first j) (first_places st 0) (cond (is_inside j) (heard_memory me st).places no_places))

      none_made : h.made ≡ cond (me == 0) (length o.births) 0
      none_made = made ∙ sym (ap (λ t. cond t (length o.births) 0) not_first)
