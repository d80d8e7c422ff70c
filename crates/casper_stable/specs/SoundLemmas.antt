use Rattle.std.proofs.Common.{zero, suc, ◌≡◌, ◌∙◌, ◌+◌, ◌-◌, ◌<◌, ◌≤◌, ◌^◌, ℕ, Bool, false, List, [], ◌∷◌, length, take, map, refl, sym, ap, subst, inl, inr, ⊎_elim, arith, get_or}
use Rattle.std.specs.Prelude.{◌⊎◌, Option, Some, None, Result, Ok, slice_index}
use Rattle.std.proofs.lemmas.List.{length-map, length-take-le}
use Rattle.casper_disk.specs.Disk.{AgreesBut}
use Rattle.casper_disk.specs.Record.{agrees_itself}
use Rattle.casper_space.specs.Changes.{last_version, with_changes}
use Rattle.casper_root.specs.Fitting.{Fits}
use Rattle.casper_root.specs.Format.{body_block}
use Rattle.casper_root.specs.Spare.{IsNext, succeeded_by, with_spare}
use Rattle.casper_root.specs.Slots.{other_slot}
use Rattle.casper_root.specs.declared.body.Body.{Body}
use Rattle.casper_root.specs.declared.header.Header.{Header}
use Rattle.casper_root.specs.declared.slot.Slot.{Slot}
use Rattle.casper_commit.specs.Root.{body_at}
use Rattle.casper_commit.specs.declared.standing.Standing.{Standing}
use Rattle.casper_root.specs.declared.roots.Roots.{Roots}
use Rattle.casper_commit.specs.States.{IsAtGate, StandsBeside, next_root, none_free, root_at}
use Rattle.casper_commit.specs.States.{besides as beside_roots}
use Rattle.casper_commit.proofs.StateLemmas.{standing_opens, standing_wider, stands_opens, stands_same, gate_decides}
use Rattle.casper_map.specs.Faulty.{frame_at}
use Rattle.casper_map.specs.Mapped.{Mapped, AreBelow}
use Rattle.casper_map.specs.Numbers.{number_of}
use Rattle.casper_map.specs.PlanLaws.{IsWhole}
use Rattle.casper_map.specs.Planned.{Planned, IsPlan, map_numbers, with_plan, with_moves}
use Rattle.casper_map.proofs.FineLemmas.{plan_parts}
use Rattle.casper_map.proofs.PlanLemmas.{moves_long}
use Rattle.casper_stable.specs.Opens.{Store, opens, store_of}
use Rattle.casper_stable.specs.Kept.{roots_of, next_body, changes_written}
use Rattle.casper_stable.specs.Sound.{IsSure, IsDoubtful, OpensToMap, free_blocks, root_of}
use Rattle.casper_stable.specs.OpensLemmas.{free_are_frames, map_stands, opens_old, opens_next, opens_to_next, next_store, HoldMaps, frame_stands}

-- a map with a plan has as many places
pub plan_long : (held : Mapped) (plan : Planned) → length (with_plan plan held).places ≡ length held.places
plan_long held plan = moves_long held.first_page plan.pages (with_moves 0 plan.maps held.places) ∙ moves_long 0 plan.maps held.places

-- and is whole under the next root
pub whole_after : (roots new : Roots) (held : Mapped) (plan : Planned) → IsWhole roots held → IsPlan held plan → new.header ≡ roots.header
    → new.body.maps ≡ map_numbers (with_plan plan held) → IsWhole new (with_plan plan held)
whole_after roots new held plan whole planned header maps =
    let long = plan_long held plan in
    let parts = plan_parts held plan planned whole.apart whole.below in
    let blocks = whole.blocks.blocks in
    let mapped = whole.blocks.mapped in
    let places = (with_plan plan held).places in
    let count : length (map_numbers (with_plan plan held)) ≡ held.first_page =
    length-map (take held.first_page places) number_of ∙ length-take-le held.first_page places (omega (arith, long, blocks)) in
    record {
      first_page = sym (ap length maps ∙ count);
      pages = ap (λ (long : ℕ). long - held.first_page) long ∙ whole.pages ∙ sym (ap (λ header. header.pages) header);
      frames = whole.frames ∙ sym (ap (λ header. header.frames) header);
      blocks = record { blocks = omega (arith, long, blocks); mapped = omega (arith, long, mapped) };
      apart = parts.0;
      below = parts.1;
    }

number_fits : (frames : ℕ) (place : Option ℕ) → frames ≤ 65536 → ((frame : ℕ) → place ≡ Some frame → frame < frames)
    → number_of place < 2 ^ 32
number_fits frames None few below = omega arith
number_fits frames (Some frame) few below = let low : frame < frames = below frame refl in omega (arith, low, few)

-- what the first places have, the places have
taken_at : (count : ℕ) (places : List (Option ℕ)) (at frame : ℕ) → frame_at (take count places) at ≡ Some frame
    → frame_at places at ≡ Some frame
taken_at zero places at frame is = cc
taken_at (suc count) [] at frame is = cc
taken_at (suc count) (place ∷ places) zero frame is = is
taken_at (suc count) (place ∷ places) (suc at) frame is = taken_at count places at frame is

numbers_fit : (frames : ℕ) (places : List (Option ℕ)) → frames ≤ 65536 → AreBelow frames places → (k : ℕ)
    → slice_index (map number_of places) k < 2 ^ 32
numbers_fit frames [] few below k = omega arith
numbers_fit frames (place ∷ places) few below zero = number_fits frames place few (λ frame is. below 0 frame is)
numbers_fit frames (place ∷ places) few below (suc k) = numbers_fit frames places few (λ at frame is. below (suc at) frame is) k

-- the body after a plan is a next one
pub next_is : (size : ℕ) (roots : Roots) (held : Mapped) (plan : Planned) → Fits size roots → IsWhole roots held → IsPlan held plan
    → roots.body.seq < last_version
    → IsNext roots.header roots.body.seq (next_body roots.body held plan)
next_is size roots held plan fits whole planned more =
    let new : Roots = record roots { body = next_body roots.body held plan } in
    let after = whole_after roots new held plan whole planned refl refl in
    let few : held.frames ≤ 65536 = omega (arith, whole.frames, fits.sizes.most_frames) in
    let places = (with_plan plan held).places in
    record {
      greater = omega arith;
      most_seq = omega (arith, more);
      maps = sym after.first_page ∙ whole.first_page ∙ fits.maps;
      numbers = numbers_fit held.frames (take held.first_page places) few (λ at frame there. after.below at frame
          (taken_at held.first_page places at frame there));
    }

-- an image that a disk without a doubt may leave
pub sure_image : (roots : Roots) (held : Mapped) (content image : List (List ℕ)) (loose : ℕ → Bool) → IsSure roots held content loose
    → AgreesBut loose content image
    → opens image ≡ Ok (store_of content roots held)
sure_image roots held content image loose is agrees =
    let free = free_blocks is.base roots in
    let root = root_of is.base roots in
    let to = standing_opens roots.spare_closed root free is.base content image loose is.stands agrees in
    let same = (stands_same roots.spare_closed root free is.base content loose is.stands).2 in
    let answer : List (List ℕ)
    → Result Store _ = λ pages. Ok
    (record { header = roots.header; saved = record { image = pages; version = roots.body.seq }; held = held }) in
    opens_old is.base image roots held is.opens to ∙ sym (ap answer (map_stands is.base content roots held is.opens.map same).1)

-- one that a disk in doubt may leave
pub doubtful_image : (size : ℕ) (roots : Roots) (held : Mapped) (plan : Planned) (content image : List (List ℕ)) (loose : ℕ → Bool)
    → Fits size roots → IsWhole roots held → IsPlan held plan
    → roots.body.seq < last_version → IsDoubtful roots held plan content loose → AgreesBut loose content image
    → (opens image ≡ Ok (store_of content roots held)) ⊎ (opens image ≡ Ok (next_store content content roots held plan))
doubtful_image size roots held plan content image loose fits whole planned more is agrees =
    let free = free_blocks is.base roots in
    let root = root_of is.base roots in
    let pages = (map_stands is.base content roots held is.opens.map is.gate.same).1 in
    let old : List (List ℕ)
    → Result Store _ = λ pages. Ok
    (record { header = roots.header; saved = record { image = pages; version = roots.body.seq }; held = held }) in
    let new : List (List ℕ) → Result Store _ = λ pages. Ok (record {
      header = roots.header;
      saved = record { image = with_changes pages (changes_written content plan); version = roots.body.seq + 1 };
      held = with_plan plan held;
    }) in
    ⊎_elim
    (λ to. inl (opens_old is.base image roots held is.opens to ∙ sym (ap old pages)))
    (λ to. inr (opens_next is.base content image roots held plan
    (opens_to_next is.base content image roots held plan is.opens fits.sizes fits.maps planned
    (next_is size roots held plan fits whole planned more) is.gate.same is.maps to) ∙ sym (ap new pages)))
    (gate_decides root _ free is.base content content image loose is.gate agrees)

-- where the next root stands, the store with the plan is on the disk
pub sure_next : (size : ℕ) (base framed content : List (List ℕ)) (roots : Roots) (held : Mapped) (plan : Planned) (loose : ℕ → Bool)
    → Fits size roots → IsWhole roots held → IsPlan held plan
    → roots.body.seq < last_version → OpensToMap base roots held → AgreesBut (beside_roots (free_blocks base roots)) base framed
    → HoldMaps framed held plan
    → StandsBeside false (next_root roots.slot (body_block (next_body roots.body held plan))) none_free framed content loose
    → IsSure (succeeded_by (next_body roots.body held plan) roots) (with_plan plan held) content loose
sure_next size base framed content roots held plan loose fits whole planned more is agrees maps stands =
    let body = next_body roots.body held plan in
    let new = succeeded_by body roots in
    let root = next_root roots.slot (body_block body) in
    let to = stands_opens false root none_free framed content loose stands in
    let next = opens_to_next base framed content roots held plan is fits.sizes fits.maps planned
    (next_is size roots held plan fits whole planned more) agrees maps to in
    let wider = standing_wider false root none_free (free_blocks content new) framed content loose stands (free_are_frames content new)
    (λ at out. refl) in
    record {
      base = content;
      opens = next.to_map;
      stands = subst (λ (block : List ℕ). StandsBeside false (record { slot = other_slot roots.slot; body = block })
          (free_blocks content new) content content loose)
          (sym stands.has.body) wider;
    }

-- where its gate decides, the store is in doubt
pub doubt_next : (base framed content : List (List ℕ)) (roots : Roots) (closed : Bool) (held : Mapped) (plan : Planned) (loose : ℕ
    → Bool) → OpensToMap base roots held
    → HoldMaps framed held plan
    → IsAtGate (root_of base roots) (body_block (next_body roots.body held plan)) (free_blocks base roots) base framed content loose
    → IsDoubtful (with_spare closed roots) held plan content loose
doubt_next base framed content roots closed held plan loose is maps gate = record {
  base = base;
  opens = record { spare = is.spare; opens = is.opens; map = is.map };
  gate = record {
    frames = gate.frames;
    has = gate.has;
    next = gate.next;
    greater = gate.greater;
    same = gate.same;
    written = agrees_itself (beside_roots none_free) content;
    settled = gate.settled;
  };
  maps = λ k d within. frame_stands framed content (get_or plan.maps k d).1 gate.written ∙ maps k d within;
}

-- where the old root stands still, so does the store
pub sure_still : (base content : List (List ℕ)) (header : Header) (standing now : Standing) (body : Body) (held : Mapped) (loose : ℕ
    → Bool) → now.slot ≡ standing.slot
    → OpensToMap base (roots_of header standing body) held
    → StandsBeside now.spare_closed (root_at now (body_at base standing.slot)) (free_blocks base
    (roots_of header standing body)) base content loose
    → IsSure (roots_of header now body) held content loose
sure_still base content header standing now body held loose same is stands =
    let answer : Slot → Result Roots _ = λ at. Ok (record { header = header; slot = at; body = body; spare_closed = is.spare }) in
    record {
      base = base;
      opens = record { spare = is.spare; opens = is.opens ∙ sym (ap answer same); map = is.map };
      stands = subst (λ at. StandsBeside now.spare_closed (root_at now (body_at base at)) (free_blocks base
          (roots_of header standing body)) base content loose) (sym same) stands;
    }
