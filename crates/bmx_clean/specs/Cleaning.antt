-- What a node keeps of its records and scions once it has looked at a table: filters, so that the rules
-- of a node's step can cite them.
use Rattle.std.specs.Prelude.{◌≡◌, ℕ, ◌+◌, Bool, ◌&&◌, not, nat_lt, ◌==◌, if◌then◌else◌, List, [], ◌∷◌, Option, Some, None, filter, count_by, refl}
use Rattle.bmx_table.specs.declared.tables.Table.{Table}
use Rattle.bmx_owner.specs.declared.entering.Record.{Record}
use Rattle.bmx_owner.specs.Records as owner
use Rattle.bmx_inter.specs.declared.inter.Scion.{Scion}
use Rattle.bmx_inter.specs.Inter as inter
use Rattle.bmx_clean.specs.declared.cleaner.Applied.{Applied}
use Rattle.bmx_clean.specs.declared.cleaner.Applied.TheVariants.{Early, Removed}

-- the table was made when more letters had been issued than were taken: one of them may still bring
-- what the table no longer knows of
abbrev pub is_early : ℕ → Table → Bool
is_early taken t = nat_lt taken t.sent

-- the table ends the record: it isn't early, and the record is one of its bunch and its maker that it
-- doesn't list and on which no later letter bears
abbrev pub ends_record : ℕ → Table → Record → Bool
ends_record taken t r = not (is_early taken t) && owner.is_stale t.bunch t.from t.sent t.got t.names r

-- the table ends the scion: it isn't early, the node made it itself, and the scion is one of its bunch
-- that it doesn't list and that no later step stored
abbrev pub ends_scion : ℕ → Table → Scion → Bool
ends_scion taken t s = not (is_early taken t) && (t.from == t.to && inter.is_stale t.bunch t.clock t.stubs s)

-- the records that stay
abbrev pub records_left : ℕ → Table → List Record → List Record
records_left taken t records = filter (λ r. not (ends_record taken t r)) records

-- what stays of the record of a name and a node
abbrev pub record_left : ℕ → Table → Option Record → Option Record
record_left taken t None = None
record_left taken t (Some r) = if ends_record taken t r then None else Some r

-- the scions that stay
abbrev pub scions_left : ℕ → Table → List Scion → List Scion
scions_left taken t scions = filter (λ s. not (ends_scion taken t s)) scions

-- the answer: early, or how many went
abbrev pub applied : ℕ → Table → List Record → List Scion → Applied
applied taken t records scions =
    if is_early taken t then Early else Removed (count_by (ends_record taken t) records + count_by (ends_scion taken t) scions)

-- ## Worked cases

-- name 2 of bunch 0 was given to node 1 by letter 3; a table of that bunch from node 1 to node 0, made
-- when it had issued 5 letters to node 0 and taken 3 from it, lists nothing
given_by_letter_3 : List Record
given_by_letter_3 = record { name = 2; bunch = 0; from = 1; sent = 3; got = 0 } ∷ []

lists_nothing : ℕ → ℕ → ℕ → Table
lists_nothing from sent got =
    record { from = from; to = 0; number = 1; stamp = 9; bunch = 0; sent = sent; got = got; clock = 7; names = []; stubs = []; intra = [] }

-- with 4 letters taken it is early and changes nothing, with 5 it ends the record
before_its_letters : (applied 4 (lists_nothing 1 5 3) given_by_letter_3 [] ≡ Early) × (records_left 4 (lists_nothing 1 5 3) given_by_letter_3 ≡ given_by_letter_3)
unfolding given_by_letter_3 lists_nothing
before_its_letters = (refl, refl)

after_its_letters : (applied 5 (lists_nothing 1 5 3) given_by_letter_3 [] ≡ Removed 1) × (records_left 5 (lists_nothing 1 5 3) given_by_letter_3 ≡ [])
unfolding given_by_letter_3 lists_nothing
after_its_letters = (refl, refl)

-- one made before letter 3 was taken ends nothing, nor does one from another node
before_the_name_came : records_left 5 (lists_nothing 1 5 2) given_by_letter_3 ≡ given_by_letter_3
unfolding given_by_letter_3 lists_nothing
before_the_name_came = refl

from_another_node : records_left 5 (lists_nothing 2 5 3) given_by_letter_3 ≡ given_by_letter_3
unfolding given_by_letter_3 lists_nothing
from_another_node = refl

-- scions go by the node's own table alone, and those stored after it stay
stored_in_step : ℕ → List Scion
stored_in_step clock = record { target = 3; source = 2; bunch = 0; clock = clock } ∷ []

by_its_own_table : (scions_left 0 (lists_nothing 0 0 0) (stored_in_step 7) ≡ []) × (applied 0 (lists_nothing 0 0 0) [] (stored_in_step 7) ≡ Removed 1)
unfolding lists_nothing stored_in_step
by_its_own_table = (refl, refl)

not_by_another_nodes : scions_left 5 (lists_nothing 1 5 3) (stored_in_step 7) ≡ stored_in_step 7
unfolding lists_nothing stored_in_step
not_by_another_nodes = refl

stored_later : scions_left 0 (lists_nothing 0 0 0) (stored_in_step 8) ≡ stored_in_step 8
unfolding lists_nothing stored_in_step
stored_later = refl
