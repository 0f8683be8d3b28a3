-- What an address means: where a chain of forwarded headers ends.
use Rattle.std.specs.Prelude.{◌≡◌, ℕ, Bool, true, false, if◌then◌else◌, List, Option, Some, None}
use Rattle.std.specs.Option.{option_map, option_and_then}
use Rattle.bmx_types.specs.Words.{IsAddress}
use Rattle.bmx_segment.specs.Blocks.{Block}
use Rattle.bmx_segment.specs.Stores.{header_at}
use Rattle.bmx_segment.specs.declared.headers.Header.{Header}
use Rattle.bmx_segment.specs.declared.headers.State.{State}
use Rattle.bmx_segment.specs.declared.headers.State.TheVariants.{Live, Forwarded, Dead}

-- the object stands here
abbrev pub is_live : State → Bool
is_live (Live moves kinds) = true
is_live (Forwarded to) = false
is_live Dead = false

-- it doesn't lead elsewhere
abbrev pub is_end : State → Bool
is_end (Live moves kinds) = true
is_end (Forwarded to) = false
is_end Dead = true

-- the name in the header at an address
abbrev pub name_at : List Block → ℕ → Option ℕ
name_at blocks a = option_map (λ (h : Header). h.name) (header_at blocks a)

-- the name in a header, where it is live
abbrev pub living : Header → Option ℕ
living h = if is_live h.state then Some h.name else None

-- the name in the live header at an address
abbrev pub living_at : List Block → ℕ → Option ℕ
living_at blocks a = option_and_then living (header_at blocks a)

-- following forwarded headers from an address ends at the header x at b
pub data Leads (blocks : List Block) (b : ℕ) (x : Header) : ℕ → Type 0 where
  here : header_at blocks b ≡ Some x → is_end x.state ≡ true → Leads blocks b x b
  on : {a : ℕ} (c : ℕ) (h : Header) → header_at blocks a ≡ Some h → h.state ≡ Forwarded c → Leads blocks b x c → Leads blocks b x a

-- a header at which following an address ends
pub record Ends (blocks : List Block) (a : ℕ) : Type 0 where
  pub at : ℕ
  pub header : Header
  pub leads : Leads blocks at header a

-- and that header has the name
pub record EndsAs (blocks : List Block) (a name : ℕ) : Type 0 where
  pub end : Ends blocks a
  pub named : end.header.name ≡ name

-- and it is live
pub record EndsLive (blocks : List Block) (a name : ℕ) : Type 0 where
  pub end : Ends blocks a
  pub named : end.header.name ≡ name
  pub live : is_live end.header.state ≡ true

-- a word means a name: it is an address, and following it ends at a header with the name
pub record Means (blocks : List Block) (w name : ℕ) : Type 0 where
  pub address : IsAddress w
  pub ends : ∥ EndsAs blocks w name ∥₁

-- a word reaches the object of a name: it is an address, and following it ends at a live header with
-- the name
pub record Reaches (blocks : List Block) (w name : ℕ) : Type 0 where
  pub address : IsAddress w
  pub ends : ∥ EndsLive blocks w name ∥₁

-- no object has moved and none was forgotten: each header is live
abbrev pub AllLive : List Block → Type 0
AllLive blocks = (a : ℕ) (h : Header) → header_at blocks a ≡ Some h → is_live h.state ≡ true
