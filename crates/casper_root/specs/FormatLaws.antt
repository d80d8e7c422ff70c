use Rattle.std.specs.Prelude.{◌≡◌, ◌<◌, ◌≤◌, ◌^◌, ℕ, true, false, List, length, slice_index, Ok}
use Rattle.casper_words.specs.Padded.{padded}
use Rattle.casper_root.specs.Choice.{is_open}
use Rattle.casper_root.specs.Format.{header_block, body_block, open_gate_block, zero_block}
use Rattle.casper_root.specs.Opening.{opened, has_name, version_of, header_of, body_found, as_body}
use Rattle.casper_root.specs.Spare.{IsWritten}
use Rattle.casper_root.specs.declared.header.Header.{Header}
use Rattle.casper_root.specs.declared.body.Body.{Body}
use Rattle.casper_root.specs.declared.roots.Roots.{Roots}

-- the block of a header has the name of a store, the version 1, and the sizes
abbrev pub HeadersAreRead : Type 0
HeadersAreRead = (header : Header) → header.pages < 2 ^ 32 → header.frames < 2 ^ 32
    → (has_name (header_block header) ≡ true) × (version_of (header_block header) ≡ 1) × (header_of (header_block header) ≡ header)

-- the block of a body has its sequence number, the count of its map blocks, and their frame numbers with zeros after them
abbrev pub BodiesAreRead : Type 0
BodiesAreRead = (body : Body) → body.seq < 2 ^ 64 → length body.maps ≤ 16 → ((k : ℕ) → slice_index body.maps k < 2 ^ 32)
    → (body_found (body_block body) ≡ record { seq = body.seq; count = length body.maps; numbers = padded 16 0 body.maps })
    × (as_body (body_found (body_block body)) ≡ body)

-- the block of an open gate is open, and a block of zeros is a closed one
abbrev pub GatesAreRead : Type 0
GatesAreRead = (is_open (slice_index open_gate_block 0) ≡ true) × (is_open (slice_index zero_block 0) ≡ false)

-- a root that was written beside a closed gate is the current one
abbrev pub OpenedAsWritten : Type 0
OpenedAsWritten = (blocks : List (List ℕ)) (roots : Roots) → IsWritten blocks roots → opened blocks ≡ Ok roots
