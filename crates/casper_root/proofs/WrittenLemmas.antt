use Rattle.std.proofs.Common.{◌≡◌, ℕ, ◌<◌, ◌≤◌, ◌^◌, Bool, true, false, List, length, refl, sym, ◌∙◌, ap, arith}
use Rattle.std.specs.Prelude.{Result, Ok, not, ◌==◌, ◌&&◌, nat_le, slice_index}
use Rattle.std.proofs.lemmas.Bool.{and_from, le-leb, eq-eqb, not_from_true}
use Rattle.casper_words.specs.Padded.{padded}
use Rattle.casper_disk.specs.Disk.{block_at}
use Rattle.casper_root.specs.Choice.{is_open}
use Rattle.casper_root.specs.Fitting.{AreSizes}
use Rattle.casper_root.specs.Format.{header_block, body_block, open_gate_block, zero_block, map_blocks_of}
use Rattle.casper_root.specs.Opening.{has_name, version_of, are_sizes, header_of, header_refusals, roots_found, body_in, body_found, is_spare_closed, is_body_of, as_body}
use Rattle.casper_root.specs.FormatLaws.{OpenedAsWritten}
use Rattle.casper_root.specs.Spare.{is_gate_open}
use Rattle.casper_root.specs.Refusal.{first_refusal}
use Rattle.casper_root.specs.Slots.{body_place, gate_place, other_slot}
use Rattle.casper_root.specs.declared.body.Body.{Body}
use Rattle.casper_root.specs.declared.fault.OpenFault.{OpenFault}
use Rattle.casper_root.specs.declared.fault.OpenFault.TheVariants as fault
use Rattle.casper_root.specs.declared.found.Found.{Found}
use Rattle.casper_root.specs.declared.found.FoundBody.{FoundBody}
use Rattle.casper_root.specs.declared.header.Header.{Header}
use Rattle.casper_root.specs.declared.roots.Roots.{Roots}
use Rattle.casper_root.specs.declared.slot.Slot.{Slot}
use Rattle.casper_root.specs.declared.slot.Slot.TheVariants as slot
use Rattle.casper_root.proofs.ChoiceLemmas.{open_in, picked_alone}
use Rattle.casper_root.proofs.FormatLemmas.{headers_are_read, bodies_are_read, gates_are_read}
use Rattle.casper_root.proofs.OpeningLemmas.{opened_root}
use Rattle.casper_root.proofs.RefusalLemmas.{pass_three}
use Rattle.casper_root.proofs.RootLemmas.{opened_roots, few_maps, roots_open}

-- what is found where this body was written
abbrev pub found_of : Body → FoundBody
found_of body = record { seq = body.seq; count = length body.maps; numbers = padded 16 0 body.maps }

-- what stands in a slot is what its block says
found_in_place : (blocks : List (List ℕ)) (at : Slot) → body_in (roots_found blocks) at ≡ body_found (block_at blocks (body_place at))
found_in_place blocks slot.A = refl
found_in_place blocks slot.B = refl

-- and its gate what the block of that says
gate_in_place : (blocks : List (List ℕ)) (at : Slot) → is_gate_open blocks at ≡ is_open (slice_index (block_at blocks (gate_place at)) 0)
gate_in_place blocks slot.A = refl
gate_in_place blocks slot.B = refl

-- a gate that was written as open is open
gate_was_opened : (blocks : List (List ℕ)) (at : Slot) → block_at blocks (gate_place at) ≡ open_gate_block → is_gate_open blocks at ≡ true
gate_was_opened blocks at written = gate_in_place blocks at ∙ ap (λ (block : List ℕ). is_open (slice_index block 0)) written ∙ gates_are_read.0

-- a gate of zeros is closed
gate_was_closed : (blocks : List (List ℕ)) (at : Slot) → block_at blocks (gate_place at) ≡ zero_block → is_gate_open blocks at ≡ false
gate_was_closed blocks at zeros = gate_in_place blocks at ∙ ap (λ (block : List ℕ). is_open (slice_index block 0)) zeros ∙ gates_are_read.1

-- a body is read from its block
body_is_read : (blocks : List (List ℕ)) (at : Slot) (body : Body) (pages : ℕ) → block_at blocks (body_place at) ≡ body_block body → pages ≤ 16384 → body.seq ≤ 281474976710655
    → length body.maps ≡ map_blocks_of pages → ((k : ℕ) → slice_index body.maps k < 2 ^ 32) → (body_in (roots_found blocks) at ≡ found_of body) × (as_body (found_of body) ≡ body)
body_is_read blocks at body pages written few most maps numbers =
    let read = bodies_are_read body (omega (arith, most)) (few_maps pages (length body.maps) few maps) numbers in
    (found_in_place blocks at ∙ ap body_found written ∙ read.0, ap as_body (sym read.0) ∙ read.1)

-- a body in its limits is one of its store
pub body_fits : (body : Body) (pages : ℕ) → 1 ≤ body.seq → body.seq ≤ 281474976710655 → length body.maps ≡ map_blocks_of pages → is_body_of pages (found_of body) ≡ true
body_fits body pages some most maps =
    and_from (nat_le 1 body.seq && nat_le body.seq 281474976710655) (length body.maps == map_blocks_of pages)
    (and_from (nat_le 1 body.seq) (nat_le body.seq 281474976710655) (le-leb 1 body.seq some) (le-leb body.seq 281474976710655 most))
    (eq-eqb (length body.maps) (map_blocks_of pages) maps)

-- sizes in their limits pass their test
sizes_are : (header : Header) → AreSizes header → are_sizes header ≡ true
sizes_are header sizes =
    and_from (nat_le 1 header.pages && nat_le header.pages 16384 && nat_le 2 header.frames) (nat_le header.frames 65536)
    (and_from (nat_le 1 header.pages && nat_le header.pages 16384) (nat_le 2 header.frames)
    (and_from (nat_le 1 header.pages) (nat_le header.pages 16384) (le-leb 1 header.pages sizes.some_pages) (le-leb header.pages 16384 sizes.most_pages))
    (le-leb 2 header.frames sizes.some_frames)) (le-leb header.frames 65536 sizes.most_frames)

-- a header that was written in its limits is not refused
header_passes : (header : Header) → AreSizes header → (first_refusal (header_refusals (header_block header)) (header_of (header_block header)) ≡ Ok header) × (header_of (header_block header) ≡ header)
header_passes header sizes =
    let block = header_block header in
    let read = headers_are_read header (omega (arith, sizes.most_pages)) (omega (arith, sizes.most_frames)) in
    let right : are_sizes (header_of block) ≡ true = ap are_sizes read.2 ∙ sizes_are header sizes in
    let answer : Header → Result Header OpenFault = λ given. Ok given in (
      pass_three (not (has_name block)) (not (version_of block == 1)) (not (are_sizes (header_of block))) fault.NotAStore (fault.Version (version_of block)) (fault.BadSize (header_of block).pages (header_of block).frames) (header_of block)
          (not_from_true (has_name block) read.0) (not_from_true (version_of block == 1) (eq-eqb (version_of block) 1 read.1)) (not_from_true (are_sizes (header_of block)) right) ∙ ap answer read.2,
      read.2,
    )

-- the spare gate is that of the other slot
spare_is : (found : Found) (at : Slot) → is_spare_closed found at ≡ not (open_in found (other_slot at))
spare_is found slot.A = refl
spare_is found slot.B = refl

pub opened_as_written : OpenedAsWritten
opened_as_written blocks roots is =
    let found = roots_found blocks in
    let header = header_passes roots.header is.fits.sizes in
    let passed : first_refusal (header_refusals (block_at blocks 0)) (header_of (block_at blocks 0)) ≡ Ok roots.header =
    ap (λ (block : List ℕ). first_refusal (header_refusals block) (header_of block)) is.header ∙ header.0 in
    let same : header_of (block_at blocks 0) ≡ roots.header = ap header_of is.header ∙ header.1 in
    let frames : (header_of (block_at blocks 0)).frames ≡ roots.header.frames = ap (λ (given : Header). given.frames) same in
    let body = body_is_read blocks roots.slot roots.body roots.header.pages is.body is.fits.sizes.most_pages is.fits.most_seq is.fits.maps is.numbers in
    let closed = gate_was_closed blocks (other_slot roots.slot) is.spare_gate in
    let picks = picked_alone found roots.slot (gate_was_opened blocks roots.slot is.gate) closed in
    let fits : is_body_of roots.header.pages (body_in found roots.slot) ≡ true = ap (is_body_of roots.header.pages) body.0 ∙ body_fits roots.body roots.header.pages is.fits.some_seq is.fits.most_seq is.fits.maps in
    let answer : Body → Bool → Result Roots OpenFault = λ given spare. Ok (record { header = roots.header; slot = roots.slot; body = given; spare_closed = spare }) in
    opened_root blocks roots.header (omega (arith, is.fits.room)) passed (omega (arith, is.fits.room, frames))
    ∙ ap (λ (given : Header). opened_roots given found) same
    ∙ roots_open roots.header found roots.slot picks fits
    ∙ ap (λ given. answer given (is_spare_closed found roots.slot)) (ap as_body body.0 ∙ body.1)
    ∙ ap (answer roots.body) (spare_is found roots.slot ∙ ap not closed ∙ sym is.spare_closed)
