-- Entering records: which names were given to which node, and up to which letter. Lists alone, so
-- that the rules of a node's step can cite them.
use Rattle.std.specs.Prelude.{◌≡◌, ℕ, Bool, ◌&&◌, ◌||◌, not, nat_lt, nat_le, ◌==◌, List, [], ◌∷◌, ◌++◌, Option, unwrap_or, max, filter, find, count_by, AllPairs, IsTrue, refl}
use Rattle.std.specs.List.{list_any}
use Rattle.bmx_owner.specs.declared.entering.Record.{Record}

-- what contracts see: the records in order, and how many more can be kept without memory
pub record Entering : Type 0 where
  pub list : List Record
  pub spare : ℕ

-- it is the record of the name and the node
abbrev pub is_of : ℕ → ℕ → Record → Bool
is_of name node r = r.name == name && r.from == node

-- it stands before the record of the name and the node
abbrev pub is_ahead : ℕ → ℕ → Record → Bool
is_ahead name node r = nat_lt r.name name || (r.name == name && nat_lt r.from node)

-- it stands behind the record of the name and the node
abbrev pub is_behind : ℕ → ℕ → Record → Bool
is_behind name node r = nat_lt name r.name || (name == r.name && nat_lt node r.from)

-- one record stands before another: by name, then by node
abbrev pub IsBefore : Record → Record → Type 0
IsBefore r s = IsTrue (is_ahead s.name s.from r)

-- each record stands before all later ones, so there is at most one of each name and node
abbrev pub IsInOrder : List Record → Type 0
IsInOrder records = AllPairs IsBefore records

-- the record of the name and the node, None where there is none
abbrev pub find_record : List Record → ℕ → ℕ → Option Record
find_record records name node = find (is_of name node) records

-- some record has the name
abbrev pub has_record : List Record → ℕ → Bool
has_record records name = list_any (λ r. r.name == name) records

-- the records with this one in its place, instead of the one of the same name and node
abbrev pub with_record : Record → List Record → List Record
with_record r records = filter (is_ahead r.name r.from) records ++ r ∷ filter (is_behind r.name r.from) records

-- a record of which no letter speaks yet
abbrev pub blank : ℕ → ℕ → ℕ → Record
blank name bunch node = record { name = name; bunch = bunch; from = node; sent = 0; got = 0 }

-- the record that stands, or else a blank one of that bunch
abbrev pub record_or_blank : List Record → ℕ → ℕ → ℕ → Record
record_or_blank records name bunch node = unwrap_or (find_record records name node) (blank name bunch node)

-- the record after letter number seq gave its name
abbrev pub sent_by : ℕ → Record → Record
sent_by seq r = record r { sent = max r.sent seq }

-- the record after letter number seq handed its object over
abbrev pub got_by : ℕ → Record → Record
got_by seq r = record r { got = max r.got seq }

-- the records after letter number seq gave the name, of an object of the bunch, to the node
abbrev pub given : List Record → ℕ → ℕ → ℕ → ℕ → List Record
given records name bunch node seq = with_record (sent_by seq (record_or_blank records name bunch node)) records

-- the records after letter number seq from the node handed the object of the name over
abbrev pub taken_over : List Record → ℕ → ℕ → ℕ → ℕ → List Record
taken_over records name bunch node seq = with_record (got_by seq (record_or_blank records name bunch node)) records

-- the names list it
abbrev pub is_listed : List ℕ → ℕ → Bool
is_listed names name = list_any (λ x. x == name) names

-- it is of the bunch and the node
abbrev pub is_under : ℕ → ℕ → Record → Bool
is_under bunch node r = r.bunch == bunch && r.from == node

-- A node's table of a bunch lists the names that the node still refers to by way of this one. No
-- letter later than the table bears on the record: when the table was made its maker had taken, among
-- the `got` letters from this node, each that gave it the name, and had sent, among the `sent` letters
-- to this node, each that handed the object over.
abbrev pub is_settled : ℕ → ℕ → Record → Bool
is_settled sent got r = nat_le r.sent got && nat_le r.got sent

-- the table ends the record: it is of that bunch and node, no later letter bears on it, and the table
-- doesn't list its name
abbrev pub is_stale : ℕ → ℕ → ℕ → ℕ → List ℕ → Record → Bool
is_stale bunch node sent got listed r = is_under bunch node r && is_settled sent got r && not (is_listed listed r.name)

-- the records that stay
abbrev pub cleaned : List Record → ℕ → ℕ → ℕ → ℕ → List ℕ → List Record
cleaned records bunch node sent got listed = filter (λ r. not (is_stale bunch node sent got listed r)) records

-- how many go
abbrev pub stale_count : List Record → ℕ → ℕ → ℕ → ℕ → List ℕ → ℕ
stale_count records bunch node sent got listed = count_by (is_stale bunch node sent got listed) records

-- a name given by letter 5 and then by letter 3: one record, sent 5
given_twice : given (given [] 2 0 1 5) 2 0 1 3 ≡ record { name = 2; bunch = 0; from = 1; sent = 5; got = 0 } ∷ []
given_twice = refl

-- an object handed over by letter 4 after its name was given by letter 5; the bunch stays the first
given_and_taken_over : taken_over (given [] 2 0 1 5) 2 3 1 4 ≡ record { name = 2; bunch = 0; from = 1; sent = 5; got = 4 } ∷ []
given_and_taken_over = refl

-- by name, then by node
in_order : given (given (given [] 3 0 1 1) 2 0 7 1) 2 0 4 2 ≡ record { name = 2; bunch = 0; from = 4; sent = 2; got = 0 } ∷ record { name = 2; bunch = 0; from = 7; sent = 1; got = 0 } ∷ record { name = 3; bunch = 0; from = 1; sent = 1; got = 0 } ∷ []
in_order = refl

-- A record of letters 5 and 4 goes by a table that speaks of both, made when its maker had sent 4
-- letters and taken 5. It stays by a table made one letter earlier either way, by one that lists its
-- name, and by one of another bunch or node.
ended_by_a_table : cleaned (taken_over (given [] 2 0 1 5) 2 0 1 4) 0 1 4 5 (3 ∷ []) ≡ []
ended_by_a_table = refl

kept_by_a_late_table : (cleaned (taken_over (given [] 2 0 1 5) 2 0 1 4) 0 1 4 4 [] ≡ taken_over (given [] 2 0 1 5) 2 0 1 4) × (cleaned (taken_over (given [] 2 0 1 5) 2 0 1 4) 0 1 3 5 [] ≡ taken_over (given [] 2 0 1 5) 2 0 1 4)
kept_by_a_late_table = (refl, refl)

kept_where_listed : cleaned (taken_over (given [] 2 0 1 5) 2 0 1 4) 0 1 4 5 (2 ∷ []) ≡ taken_over (given [] 2 0 1 5) 2 0 1 4
kept_where_listed = refl

kept_in_another_bunch : cleaned (given [] 2 0 1 5) 3 1 9 9 [] ≡ given [] 2 0 1 5
kept_in_another_bunch = refl

kept_from_another_node : cleaned (given [] 2 0 1 5) 0 3 9 9 [] ≡ given [] 2 0 1 5
kept_from_another_node = refl
