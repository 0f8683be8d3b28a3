-- The words of names and addresses: what a name or an address is seen as.
use Rattle.std.specs.Prelude.{◌≡◌, ℕ, ◌+◌, ◌*◌, ◌/◌, ◌%◌, ◌^◌, ◌<◌, refl}

-- the word of the name that a node made as its count-th: the node in the top 8 bits
abbrev pub name_word : ℕ → ℕ → ℕ
name_word node count = node * 2 ^ 56 + count

-- the node that made the name of a word
abbrev pub maker : ℕ → ℕ
maker word = word / 2 ^ 56

-- which of its maker's names it is, from 1
abbrev pub count_of : ℕ → ℕ
count_of word = word % 2 ^ 56

-- a word is some name's
abbrev pub IsName : ℕ → Type 0
IsName word = (maker word < 8) × (0 < count_of word)

-- the name of a bunch's anchor: the first names of node 0, in the order of bunches
abbrev pub anchor_of : ℕ → ℕ
anchor_of bunch = bunch + 1

-- the word of an address: the home node in the top 8 bits, the segment's number in the next 24, the
-- index of the word in the low 32
abbrev pub address_word : ℕ → ℕ → ℕ → ℕ
address_word home segment index = home * 2 ^ 56 + segment * 2 ^ 32 + index

-- the node whose segment it is in
abbrev pub home_of : ℕ → ℕ
home_of word = word / 2 ^ 56

-- the number of the segment, from 1
abbrev pub segment_of : ℕ → ℕ
segment_of word = word % 2 ^ 56 / 2 ^ 32

-- the index of the word in its segment
abbrev pub index_of : ℕ → ℕ
index_of word = word % 2 ^ 32

-- a word is some address's
abbrev pub IsAddress : ℕ → Type 0
IsAddress word = (home_of word < 8) × (0 < segment_of word) × (segment_of word < 2 ^ 16) × (index_of word < 1024)

-- the largest address
largest_address : address_word 7 65535 1023 ≡ 0x0700ffff000003ff
largest_address = refl

-- the second name of node 0 is 2, the first of node 1 is 2 ^ 56 + 1
first_name_of_node_1 : name_word 1 1 ≡ 2 ^ 56 + 1
first_name_of_node_1 = refl
