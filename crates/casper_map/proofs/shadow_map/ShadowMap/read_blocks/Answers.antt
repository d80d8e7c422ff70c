use Rattle.std.proofs.Common.{◌≡◌, ◌+◌, ◌*◌, ◌/◌, ◌≤◌, ℕ, List, length, refl, sym, ◌∙◌, ap, subst, ⊎_elim, arith}
use Rattle.std.specs.Prelude.{Option, None, Ok, Err, min}
use Rattle.std.proofs.lemmas.List.{length-replicate}
use Rattle.casper_root.specs.declared.fault.OpenFault.{OpenFault}
use Rattle.casper_root.specs.declared.fault.OpenFault.TheVariants as fault
use Rattle.casper_map.specs.Mapped.{Mapped, page_count}
use Rattle.casper_map.specs.Reading.{IsRead, HasNoneFrom, IsFirstBad, StandAt, root_places, opened_map, unmapped, end_of_block}
use Rattle.casper_map.proofs.OpenedLemmas.{all_in, all_long, maps_long, places_with, opened_fully, bad_in_maps, bad_in_pages, unread_map, root_stands, of_disk, as_opened, handed_to, only_same, only_then}
use Rattle.casper_map.proofs.shadow_map.ShadowMap.read_blocks.Goals as goal

pub returns-in_err-put_all-clause-map : goal.returns-in_err-put_all-clause-map
returns-in_err-put_all-clause-map g c told =
    let blocks = g.D.Disk.content c.args.disk.now in
    let roots = c.args.roots.now in
    let all = all_in blocks roots in
    let map = c.in_ok-map.map in
    let numbers = c.as_slice-numbers.result.now in
    let given = c.as_slice-numbers.ensures.list in
    let made : map ≡ unmapped (length roots.body.maps) roots.header.pages roots.header.frames =
    c.in_ok-map.ensures ∙ ap (λ (list : List ℕ). unmapped (length list) roots.header.pages roots.header.frames) given in
    let count : length roots.body.maps ≡ (roots.header.pages + 1023) / 1024 = c.requires.maps in
    let few : roots.header.pages ≤ 1024 * length roots.body.maps = omega arith in
    let stand : StandAt 0 numbers all = subst (λ (list : List ℕ). StandAt 0 list all) (sym given) (root_stands blocks roots) in
    let why = c.in_err-put_all.field-0.0 in
    let bad : IsFirstBad map.frames all 0 (0 + length numbers) 0 1024 why = c.in_err-put_all.ensures.put all (unread_map blocks roots map few made) stand in
    let frames : map.frames ≡ roots.header.frames = ap (λ (held : Mapped). held.frames) made in
    let first = subst (λ (n : ℕ). IsFirstBad n all 0 (0 + length roots.body.maps) 0 1024 why) frames
    (subst (λ (list : List ℕ). IsFirstBad map.frames all 0 (0 + length list) 0 1024 why) given bad) in
    as_opened c.from_residual-in_err-put_all.result (opened_map blocks roots)
    (handed_to c.from_residual-in_err-put_all.result why c.from_residual-in_err-put_all.ensures.1 ∙ bad_in_maps blocks roots why first)

pub returns-in_err-read_block-clause-map : goal.returns-in_err-read_block-clause-map
returns-in_err-read_block-clause-map g c told =
    let blocks = g.D.Disk.content c.args.disk.now in
    let roots = c.args.roots.now in
    let map = c.loop-number.map in
    let held = c.loop-number.invariant in
    let number = c.loop-number.number in
    let here = g.D.Disk.content c.loop-number.disk in
    let content : here ≡ blocks = (held.only told).same_content in
    let pages = held.pages in
    let why = c.in_err-read_block.field-0.0 in
    let result = c.from_residual-in_err-read_block.result in
    let long : length (root_places roots) ≡ map.first_page = maps_long roots ∙ sym held.blocks in
    let count : length roots.body.maps ≡ (roots.header.pages + 1023) / 1024 = c.requires.maps in
    let inside : 1024 * number ≤ page_count map = omega (arith, c.loop-number-test.true, count, pages, c.as_slice-numbers.ensures.list, ap length c.as_slice-numbers.ensures.list) in
    let front : map.first_page + min (1024 * number) (page_count map) ≡ map.first_page + 1024 * number = omega (arith, inside) in
    let read : IsRead (map.first_page + 1024 * number) (places_with roots (page_count map) here) map =
    subst (λ (k : ℕ). IsRead k (places_with roots (page_count map) here) map) front
    (subst (λ (list : List (List ℕ)). IsRead (map.first_page + min (1024 * number) (page_count map)) (places_with roots (page_count map) list) map) (sym content)
    (subst (λ (n : ℕ). IsRead (map.first_page + min (1024 * number) (page_count map)) (places_with roots n blocks) map) (sym pages) (held.read told))) in
    let handed = handed_to result why c.from_residual-in_err-read_block.ensures.1 in
    let F : ℕ → ℕ → List (List ℕ) → Type 0 = λ frames n list. IsFirstBad frames (places_with roots n list) map.first_page (length (places_with roots n list)) 0 1 why in
    ⊎_elim
    (λ (disk : why ≡ fault.Disk). of_disk result (opened_map blocks roots) (handed ∙ ap (λ (e : OpenFault). Err e) disk))
    (λ (bad : F map.frames (page_count map) here).
    as_opened result (opened_map blocks roots)
    (handed ∙ bad_in_pages blocks roots map.first_page why held.blocks
    (subst (λ (list : List (List ℕ)). F roots.header.frames roots.header.pages list) content
    (subst (λ (n : ℕ). F roots.header.frames n here) pages (subst (λ (frames : ℕ). F frames (page_count map) here) held.frames bad)))))
    (c.in_err-read_block.ensures.pages told (root_places roots) long read)

pub returns-clause-map : goal.returns-clause-map
returns-clause-map g c told =
    let blocks = g.D.Disk.content c.args.disk.now in
    let roots = c.args.roots.now in
    let map = c.loop-number.map in
    let held = c.loop-number.invariant in
    let pages = held.pages in
    let first = held.blocks in
    let count : length roots.body.maps ≡ (roots.header.pages + 1023) / 1024 = c.requires.maps in
    let few : roots.header.pages ≤ 1024 * length roots.body.maps = omega arith in
    let end : map.first_page + min (1024 * c.loop-number.number) (page_count map) ≡ length (all_in blocks roots) =
    omega (arith, all_long blocks roots few, pages, first, few, c.loop-number-test.false, ap length c.as_slice-numbers.ensures.list) in
    as_opened (Ok map) (opened_map blocks roots)
    (opened_fully blocks roots map (subst (λ (k : ℕ). IsRead k (all_in blocks roots) map) end (held.read told)) first held.frames)

pub loop-number-init : goal.loop-number-init
loop-number-init g c =
    let roots = c.args.roots.now in
    let map = c.in_ok-map.map in
    let new = c.put_all.new.self in
    let numbers = c.as_slice-numbers.result.now in
    let given = c.as_slice-numbers.ensures.list in
    let made : map ≡ unmapped (length roots.body.maps) roots.header.pages roots.header.frames =
    c.in_ok-map.ensures ∙ ap (λ (list : List ℕ). unmapped (length list) roots.header.pages roots.header.frames) given in
    let sizes = c.in_ok-put_all.ensures.sizes in
    let first : new.first_page ≡ length roots.body.maps = sizes.first_page ∙ ap (λ (held : Mapped). held.first_page) made in
    let places : length new.places ≡ length roots.body.maps + roots.header.pages =
    sizes.places ∙ ap (λ (held : Mapped). length held.places) made ∙ length-replicate {A = Option ℕ} (length roots.body.maps + roots.header.pages) None in
    let count : length roots.body.maps ≡ (roots.header.pages + 1023) / 1024 = c.requires.maps in
    let few : roots.header.pages ≤ 1024 * length roots.body.maps = omega arith in
    let start : 0 + length numbers ≡ new.first_page + min 0 (page_count new) = omega (arith, first, ap length given) in
    record {
      read = λ told.
          let blocks = g.D.Disk.content c.args.disk.now in
          let all = all_in blocks roots in
          let stand : StandAt 0 numbers all = subst (λ (list : List ℕ). StandAt 0 list all) (sym given) (root_stands blocks roots) in
          subst (λ (k : ℕ). IsRead k all new) start (c.in_ok-put_all.ensures.put all (unread_map blocks roots map few made) stand);
      unread = subst (λ (k : ℕ). HasNoneFrom k new) start c.in_ok-put_all.ensures.unread;
      blocks = first;
      pages = omega (arith, first, places);
      frames = sizes.frames ∙ ap (λ (held : Mapped). held.frames) made;
      only = λ told. only_same g.D.Disk.content g.D.Disk.loose g.D.Disk.moment g.D.Disk.images_since c.args.disk.now;
      leads = g.met.D.Disk.leads_to_itself c.args.disk.now;
      size = refl;
      never_falls = omega arith;
    }

pub loop-number-preserved : goal.loop-number-preserved
loop-number-preserved g c =
    let roots = c.args.roots.now in
    let map = c.loop-number.map in
    let new = c.read_block.new.self in
    let held = c.loop-number.invariant in
    let number = c.loop-number.number in
    let done = c.in_ok-read_block.ensures in
    let sizes = done.sizes in
    let pages = held.pages in
    let count : length roots.body.maps ≡ (roots.header.pages + 1023) / 1024 = c.requires.maps in
    let inside : 1024 * number ≤ page_count map = omega (arith, c.loop-number-test.true, count, pages, ap length c.as_slice-numbers.ensures.list) in
    let front : map.first_page + min (1024 * number) (page_count map) ≡ map.first_page + 1024 * number = omega (arith, inside) in
    let end : end_of_block number map ≡ new.first_page + min (1024 * (number + 1)) (page_count new) = omega (arith, sizes.first_page, sizes.places) in
    record {
      read = λ told.
          let blocks = g.D.Disk.content c.args.disk.now in
          let here = g.D.Disk.content c.loop-number.disk in
          let content : here ≡ blocks = (held.only told).same_content in
          let long : length (root_places roots) ≡ map.first_page = maps_long roots ∙ sym held.blocks in
          let read : IsRead (map.first_page + 1024 * number) (places_with roots (page_count map) here) map =
          subst (λ (k : ℕ). IsRead k (places_with roots (page_count map) here) map) front
          (subst (λ (list : List (List ℕ)). IsRead (map.first_page + min (1024 * number) (page_count map)) (places_with roots (page_count map) list) map) (sym content)
          (subst (λ (n : ℕ). IsRead (map.first_page + min (1024 * number) (page_count map)) (places_with roots n blocks) map) (sym pages) (held.read told))) in
          let after : IsRead (end_of_block number map) (places_with roots (page_count map) here) new = done.pages told (root_places roots) long read in
          subst (λ (k : ℕ). IsRead k (all_in blocks roots) new) end
          (subst (λ (list : List (List ℕ)). IsRead (end_of_block number map) (places_with roots roots.header.pages list) new) content
          (subst (λ (n : ℕ). IsRead (end_of_block number map) (places_with roots n here) new) pages after));
      unread = subst (λ (k : ℕ). HasNoneFrom k new) end done.unread;
      blocks = sizes.first_page ∙ held.blocks;
      pages = omega (arith, sizes.first_page, sizes.places, pages);
      frames = sizes.frames ∙ held.frames;
      only = λ told. only_then g.D.Disk.content g.D.Disk.loose g.D.Disk.moment g.D.Disk.images_since c.args.disk.now c.loop-number.disk c.read_block.new.disk (held.only told) (done.read told);
      leads = g.met.D.Disk.leads_on c.args.disk.now c.loop-number.disk c.read_block.new.disk held.leads done.leads;
      size = done.size ∙ held.size;
      never_falls = omega (arith, held.never_falls, done.never_falls);
    }

pub returns-clause-whole : goal.returns-clause-whole
returns-clause-whole g c =
    let roots = c.args.roots.now in
    let map = c.loop-number.map in
    let held = c.loop-number.invariant in
    let count : length roots.body.maps ≡ (roots.header.pages + 1023) / 1024 = c.requires.maps in
    record {
      first_page = held.blocks;
      pages = held.pages;
      frames = held.frames;
      blocks = record {
        blocks = omega (arith, held.pages, c.requires.sizes.some_pages);
        mapped = omega (arith, held.pages, held.blocks, count, c.requires.sizes.some_pages);
      };
      apart = c.used.ensures.apart;
      below = c.used.ensures.in_range;
    }
