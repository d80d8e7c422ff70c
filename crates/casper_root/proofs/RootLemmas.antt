use Rattle.std.proofs.Common.{◌≡◌, ℕ, ◌+◌, ◌≤◌, Bool, true, List, ◌++◌, length, refl, sym, ◌∙◌, ap, subst, arith, length-take-le}
use Rattle.std.specs.Prelude.{Result, Ok, Some, not, ◌==◌, ◌&&◌, nat_le, nat_lt, unwrap_or}
use Rattle.std.proofs.lemmas.Bool.{not-false, not_from_true, and_parts, leb-true, ltb-false, eqb-true}
use Rattle.casper_disk.specs.Disk.{block_at}
use Rattle.casper_root.specs.Choice.{is_open}
use Rattle.casper_root.specs.Opening.{opened, has_name, version_of, are_sizes, header_of, roots_found, slot_of, body_in, is_spare_closed, is_body_of, as_body, current_root, count_refusals, header_refusals, room_refusals, root_refusals}
use Rattle.casper_root.specs.Fitting.{AreSizes, Fits}
use Rattle.casper_root.specs.Format.{map_blocks_of}
use Rattle.casper_root.specs.Refusal.{first_refusal}
use Rattle.casper_root.specs.declared.body.Body.{Body}
use Rattle.casper_root.specs.declared.fault.OpenFault.{OpenFault}
use Rattle.casper_root.specs.declared.fault.OpenFault.TheVariants as fault
use Rattle.casper_root.specs.declared.found.Found.{Found}
use Rattle.casper_root.specs.declared.header.Header.{Header}
use Rattle.casper_root.specs.declared.roots.Roots.{Roots}
use Rattle.casper_root.specs.declared.slot.Slot.{Slot}
use Rattle.casper_root.specs.declared.slot.Slot.TheVariants as slot
use Rattle.casper_root.proofs.ChoiceLemmas.{picked, picked_some, picked_open}
use Rattle.casper_root.proofs.RefusalLemmas.{passed_first, passed_both, passed_two, pass_two, passed_third, passed_last}

-- the root in a slot
abbrev pub root_in : Header → Found → Slot → Roots
root_in header found at = record { header = header; slot = at; body = as_body (body_in found at); spare_closed = is_spare_closed found at }

-- the refusals but those of the roots
abbrev pub first_refusals : ℕ → List ℕ → List (Bool × OpenFault)
first_refusals count block = count_refusals count ++ header_refusals block ++ room_refusals count (header_of block)

-- what the roots open to
abbrev pub opened_roots : Header → Found → Result Roots OpenFault
opened_roots header found = first_refusal (root_refusals header found) (current_root header found)

-- no refusal but one of the roots
abbrev HasHeader : ℕ → List ℕ → Type 0
HasHeader count block = first_refusal (first_refusals count block) (header_of block) ≡ Ok (header_of block)

-- what some blocks say whose root was opened
pub record Opens (blocks : List (List ℕ)) (roots : Roots) : Type 0 where
  pub has_header : HasHeader (length blocks) (block_at blocks 0)
  pub header : header_of (block_at blocks 0) ≡ roots.header
  pub picks : picked (roots_found blocks) ≡ Some roots.slot
  pub fits : is_body_of roots.header.pages (body_in (roots_found blocks) roots.slot) ≡ true
  pub root : root_in roots.header (roots_found blocks) roots.slot ≡ roots

-- sizes of which no test fails are in their limits
are_in_limits : (header : Header) → are_sizes header ≡ true → AreSizes header
are_in_limits header are =
    let last = and_parts (nat_le 1 header.pages && nat_le header.pages 16384 && nat_le 2 header.frames) (nat_le header.frames 65536) are in
    let third = and_parts (nat_le 1 header.pages && nat_le header.pages 16384) (nat_le 2 header.frames) last.0 in
    let first = and_parts (nat_le 1 header.pages) (nat_le header.pages 16384) third.0 in
    record {
      some_pages = leb-true 1 header.pages first.0;
      most_pages = leb-true header.pages 16384 first.1;
      some_frames = leb-true 2 header.frames third.1;
      most_frames = leb-true header.frames 65536 last.1;
    }

-- no refusal of a header leaves its sizes in their limits
sizes_pass : (block : List ℕ) (header : Header) → first_refusal (header_refusals block) header ≡ Ok header → AreSizes (header_of block)
sizes_pass block header passed =
    let third = passed_third (not (has_name block)) (not (version_of block == 1)) (not (are_sizes (header_of block))) fault.NotAStore (fault.Version (version_of block)) (fault.BadSize (header_of block).pages (header_of block).frames) header header passed in
    are_in_limits (header_of block) (not-false (are_sizes (header_of block)) third)

-- with no refusal but one of the roots, the sizes are in their limits and the disk has a block for each frame
header_fits : (count : ℕ) (block : List ℕ) → HasHeader count block → AreSizes (header_of block) × (5 + (header_of block).frames ≤ count)
header_fits count block passed =
    let header = header_of block in
    let two = passed_both (count_refusals count ++ header_refusals block) (room_refusals count header) header header header passed in
    let one = passed_both (count_refusals count) (header_refusals block) header header header two.0 in
    (sizes_pass block header one.1, ltb-false count (5 + header.frames) (passed_last (nat_lt count (5 + header.frames)) (fault.Short (5 + header.frames) count) header header two.1))

-- the roots by the slot that is picked
pub roots_open : (header : Header) (found : Found) (at : Slot) → picked found ≡ Some at → is_body_of header.pages (body_in found at) ≡ true → opened_roots header found ≡ Ok (root_in header found at)
roots_open header found at picks fits =
    let same : slot_of found ≡ at = ap (λ option. unwrap_or option slot.A) picks in
    let fitting : is_body_of header.pages (body_in found (slot_of found)) ≡ true = ap (λ place. is_body_of header.pages (body_in found place)) same ∙ fits in
    let answer : Slot → Result Roots OpenFault = λ place. Ok (root_in header found place) in
    let body = body_in found (slot_of found) in
    pass_two (not (is_open found.gate_a) && not (is_open found.gate_b)) (not (is_body_of header.pages body)) fault.NoRoot (fault.BadBody body.seq body.count) (current_root header found)
    (picked_open found at picks) (not_from_true (is_body_of header.pages body) fitting)
    ∙ ap answer same

-- what blocks say that open to a root
pub opens_say : (blocks : List (List ℕ)) (roots : Roots) → opened blocks ≡ Ok roots → Opens blocks roots
unfolding opened
opens_say blocks roots open_now =
    let header = header_of (block_at blocks 0) in
    let found = roots_found blocks in
    let body = body_in found (slot_of found) in
    let all = passed_both (first_refusals (length blocks) (block_at blocks 0)) (root_refusals header found) header (current_root header found) roots open_now in
    let two = passed_two (not (is_open found.gate_a) && not (is_open found.gate_b)) (not (is_body_of header.pages body)) fault.NoRoot (fault.BadBody body.seq body.count) (current_root header found) roots all.1 in
    subst (λ (root : Roots). Opens blocks root) two.2 (record {
      has_header = all.0;
      header = refl;
      picks = picked_some found two.0;
      fits = not-false (is_body_of header.pages body) two.1;
      root = refl;
    })

-- an image with the header of blocks that open to a root opens to the root of the slot that is picked
pub opens_too : (blocks image : List (List ℕ)) (roots : Roots) (at : Slot) → Opens blocks roots → length image ≡ length blocks → block_at image 0 ≡ block_at blocks 0
    → picked (roots_found image) ≡ Some at → is_body_of roots.header.pages (body_in (roots_found image) at) ≡ true → opened image ≡ Ok (root_in roots.header (roots_found image) at)
unfolding opened
opens_too blocks image roots at say count first picks fits =
    let header = header_of (block_at image 0) in
    let found = roots_found image in
    let has_header : HasHeader (length image) (block_at image 0) =
    subst (λ (number : ℕ). HasHeader number (block_at image 0)) (sym count) (subst (λ (block : List ℕ). HasHeader (length blocks) block) (sym first) say.has_header) in
    passed_first (first_refusals (length image) (block_at image 0)) (root_refusals header found) header header (current_root header found) has_header
    ∙ ap (λ (sizes : Header). opened_roots sizes found) (ap header_of first ∙ say.header)
    ∙ roots_open roots.header found at picks fits

-- the numbers of a body that was found are as many as its count says
maps_counted : (blocks : List (List ℕ)) (at : Slot) → (body_in (roots_found blocks) at).count ≤ 16
    → length (as_body (body_in (roots_found blocks) at)).maps ≡ (body_in (roots_found blocks) at).count
maps_counted blocks slot.A few = length-take-le (body_in (roots_found blocks) slot.A).count (body_in (roots_found blocks) slot.A).numbers few
maps_counted blocks slot.B few = length-take-le (body_in (roots_found blocks) slot.B).count (body_in (roots_found blocks) slot.B).numbers few

-- a store has at most 16 map blocks
pub few_maps : (pages count : ℕ) → pages ≤ 16384 → count ≡ map_blocks_of pages → count ≤ 16
few_maps pages count few is = omega arith

-- a root that is opened fits its disk
pub opens_fit : (blocks : List (List ℕ)) (roots : Roots) → Opens blocks roots → Fits (length blocks) roots
opens_fit blocks roots say =
    let found = body_in (roots_found blocks) roots.slot in
    let header = header_fits (length blocks) (block_at blocks 0) say.has_header in
    let sizes : AreSizes roots.header = subst (λ (given : Header). AreSizes given) say.header header.0 in
    let all = and_parts (nat_le 1 found.seq && nat_le found.seq 281474976710655) (found.count == map_blocks_of roots.header.pages) say.fits in
    let seq = and_parts (nat_le 1 found.seq) (nat_le found.seq 281474976710655) all.0 in
    let count : found.count ≡ map_blocks_of roots.header.pages = eqb-true found.count (map_blocks_of roots.header.pages) all.1 in
    let same : as_body found ≡ roots.body = ap (λ (root : Roots). root.body) say.root in
    let numbered : (as_body found).seq ≡ roots.body.seq = ap (λ (body : Body). body.seq) same in
    let frames = ap (λ (given : Header). given.frames) say.header in
    record {
      sizes = sizes;
      room = omega (arith, header.1, frames);
      some_seq = omega (arith, leb-true 1 found.seq seq.0, numbered);
      most_seq = omega (arith, leb-true found.seq 281474976710655 seq.1, numbered);
      maps = sym (ap (λ (body : Body). length body.maps) same) ∙ maps_counted blocks roots.slot (few_maps roots.header.pages found.count sizes.most_pages count) ∙ count;
    }
