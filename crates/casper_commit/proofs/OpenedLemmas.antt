use Rattle.std.proofs.Common.{◌≡◌, ℕ, Bool, true, List, length, refl, sym, ◌∙◌, ap, subst, arith}
use Rattle.std.specs.Prelude.{Result, Ok, not}
use Rattle.casper_disk.specs.Disk.{AgreesBut, block_at}
use Rattle.casper_root.specs.Format.{body_block}
use Rattle.casper_root.specs.Opening.{opened, roots_found, body_in, body_found, as_body, is_body_of, is_spare_closed}
use Rattle.casper_root.specs.Slots.{other_slot}
use Rattle.casper_root.specs.declared.fault.OpenFault.{OpenFault}
use Rattle.casper_root.specs.declared.body.Body.{Body}
use Rattle.casper_root.specs.declared.roots.Roots.{Roots}
use Rattle.casper_root.specs.declared.slot.Slot.{Slot}
use Rattle.casper_root.specs.declared.slot.Slot.TheVariants as slot
use Rattle.casper_root.specs.Spare.{IsNext}
use Rattle.casper_root.proofs.FormatLemmas.{bodies_are_read}
use Rattle.casper_root.proofs.RootLemmas.{opens_say, opens_too, opens_fit, few_maps}
use Rattle.casper_root.proofs.WrittenLemmas.{found_of, body_fits}
use Rattle.casper_commit.specs.OpenedLaws.{OpenedIsCurrent, CurrentIsOpened, OpenedStands, OpenedStill, OpenedNext, NextIsGreater, SeqIsRead}
use Rattle.casper_commit.specs.Root.{Root, has_open_gate, body_at, seq_of}
use Rattle.casper_commit.specs.States.{AreFrames, StandsBeside, besides, next_root}
use Rattle.casper_commit.proofs.RootLemmas.{root_of_slot, root_says}
use Rattle.casper_commit.proofs.StateLemmas.{found_stands}

-- what stands in a slot is what its block says
body_in_place : (blocks : List (List ℕ)) (at : Slot) → body_in (roots_found blocks) at ≡ body_found (body_at blocks at)
body_in_place blocks slot.A = refl
body_in_place blocks slot.B = refl

spare_in_place : (blocks : List (List ℕ)) (at : Slot) → is_spare_closed (roots_found blocks) at ≡ not (has_open_gate blocks (other_slot at))
spare_in_place blocks slot.A = refl
spare_in_place blocks slot.B = refl

pub opened_is_current : OpenedIsCurrent
opened_is_current blocks roots opens =
    let say = opens_say blocks roots opens in
    let place = body_in_place blocks roots.slot in (
      root_of_slot blocks (record { slot = roots.slot; body = body_at blocks roots.slot }) say.picks refl,
      ap as_body (sym place) ∙ ap (λ (root : Roots). root.body) say.root,
      ap (is_body_of roots.header.pages) (sym place) ∙ say.fits,
      sym (ap (λ (root : Roots). root.spare_closed) say.root) ∙ spare_in_place blocks roots.slot,
    )

pub current_is_opened : CurrentIsOpened
current_is_opened blocks image roots root opens count first is fits =
    let say = opens_say blocks roots opens in
    let says = root_says image root is in
    let found = body_in_place image root.slot ∙ ap body_found says.1 in
    let answer : Body → Bool → Result Roots OpenFault = λ given closed. Ok (record { header = roots.header; slot = root.slot; body = given; spare_closed = closed }) in
    opens_too blocks image roots root.slot say count first says.0 (ap (is_body_of roots.header.pages) found ∙ fits)
    ∙ ap (λ given. answer given (is_spare_closed (roots_found image) root.slot)) (ap as_body found)
    ∙ ap (answer (as_body (body_found root.body))) (spare_in_place image root.slot)

pub seq_is_read : SeqIsRead
seq_is_read body = refl

pub opened_stands : OpenedStands
opened_stands content roots free loose opens frames none =
    let current = opened_is_current content roots opens in
    let root : Root = record { slot = roots.slot; body = body_at content roots.slot } in
    subst (λ closed. StandsBeside closed root free content content loose) (sym current.3)
    (found_stands root free content loose current.0 frames none)

-- the header is neither of a root nor free
header_same : (free : ℕ → Bool) (base image : List (List ℕ)) → AreFrames free → AgreesBut (besides free) base image → block_at image 0 ≡ block_at base 0
header_same free base image frames agrees = agrees.same 0 (frames 0 (omega arith))

pub opened_still : OpenedStill
opened_still base image roots free opens frames is =
    let current = opened_is_current base roots opens in
    let root : Root = record { slot = roots.slot; body = body_at base roots.slot } in
    let answer : Body → Result Roots OpenFault = λ body. Ok (record { header = roots.header; slot = roots.slot; body = body; spare_closed = not (has_open_gate image (other_slot roots.slot)) }) in
    current_is_opened base image roots root opens is.same.count (header_same free base image frames is.same) is.opens current.2
    ∙ ap answer current.1

-- a next body is read from its block
next_is_read : (base : List (List ℕ)) (roots : Roots) (body : Body) → opened base ≡ Ok roots → IsNext roots.header roots.body.seq body
    → (body_found (body_block body) ≡ found_of body) × (as_body (body_found (body_block body)) ≡ body)
next_is_read base roots body opens next =
    let fits = opens_fit base roots (opens_say base roots opens) in
    bodies_are_read body (omega (arith, next.most_seq)) (few_maps roots.header.pages (length body.maps) fits.sizes.most_pages next.maps) next.numbers

twice : (at : Slot) → other_slot (other_slot at) ≡ at
twice slot.A = refl
twice slot.B = refl

pub opened_next : OpenedNext
opened_next base framed image roots body free opens frames agrees next is =
    let read = next_is_read base roots body opens next in
    let root = next_root roots.slot (body_block body) in
    let fits : is_body_of roots.header.pages (body_found (body_block body)) ≡ true =
    ap (is_body_of roots.header.pages) read.0 ∙ body_fits body roots.header.pages (omega (arith, next.greater)) next.most_seq next.maps in
    let first : block_at image 0 ≡ block_at base 0 = is.same.same 0 refl ∙ header_same free base framed frames agrees in
    let answer : Body → Slot → Result Roots OpenFault = λ given at. Ok (record { header = roots.header; slot = other_slot roots.slot; body = given; spare_closed = not (has_open_gate image at) }) in
    current_is_opened base image roots root opens (is.same.count ∙ agrees.count) first is.opens fits
    ∙ ap (λ given. answer given (other_slot (other_slot roots.slot))) read.1 ∙ ap (answer body) (twice roots.slot)

pub next_is_greater : NextIsGreater
next_is_greater base roots body opens next =
    let current = opened_is_current base roots opens in
    let old : seq_of (body_at base roots.slot) ≡ roots.body.seq = ap (λ (given : Body). given.seq) current.1 in
    let new : seq_of (body_block body) ≡ body.seq = ap (λ (given : Body). given.seq) (next_is_read base roots body opens next).1 in
    omega (arith, old, new, next.greater)
