use Rattle.std.proofs.Common.{◌≡◌, ◌+◌, ◌-◌, true, [], ◌∷◌, ◌++◌, ◌∙◌, ap, arith, get_or}
use Rattle.std.specs.Prelude.{not, nat_lt, nat_le}
use Rattle.std.proofs.lemmas.Bool.{or_parts, or_from, leb-false, le-ltb, and_right, not_from_true}
use Rattle.casper_map.specs.Faulty.{first_faulty, bad_map, pages_under}
use Rattle.casper_map.specs.Levels.{names, free_in, one_reader}
use Rattle.casper_map.specs.Mapped.{Mapped}
use Rattle.casper_map.specs.Planned.{frames_in}
use Rattle.casper_map.specs.PlanLaws.{PlansTakeFreeFrames, NamedFramesStay}
use Rattle.casper_map.specs.Reading.{mapped_in, levels_of, root_places}
use Rattle.casper_map.proofs.OpenedLemmas.{all_in}
use Rattle.casper_map.proofs.OpensLemmas.{fine_found}
use Rattle.casper_map.proofs.PlannedLemmas.{plan_rises, plan_fine}

pub plans_take_free_frames : PlansTakeFreeFrames
plans_take_free_frames held plan is =
    let frames = frames_in plan.pages ++ frames_in plan.maps in
    let fine = plan_fine held plan is in
    record {
      rising = plan_rises held plan is;
      in_range = λ k d within.
          let frame = get_or frames k d in
          leb-false held.frames frame (or_parts (nat_le held.frames frame) (names held.places frame) (fine k d within)).0;
      free = λ k d within.
          let frame = get_or frames k d in
          (or_parts (nat_le held.frames frame) (names held.places frame) (fine k d within)).1;
    }

pub named_frames_stay : NamedFramesStay
named_frames_stay blocks image roots held frame is agrees named =
    let all = all_in blocks roots in
    let opened = fine_found (bad_map (pages_under (1024 ∷ 1 ∷ []) (levels_of blocks roots)) all) (first_faulty roots.header.frames all) (mapped_in blocks roots) held is in
    let back : 5 + frame - 5 ≡ frame = omega arith in
    let there : names all (5 + frame - 5) ≡ true = ap (names all) back ∙ ap (λ (map : Mapped). names map.places frame) opened.1 ∙ named in
    agrees.same (5 + frame)
    (or_from (nat_lt (5 + frame) 5) (free_in one_reader blocks (roots.header.pages ∷ []) (root_places roots) (5 + frame)) (le-ltb (5 + frame) 5 (omega arith))
    (and_right (nat_le 5 (5 + frame)) (not (names all (5 + frame - 5))) (not_from_true (names all (5 + frame - 5)) there)))
