use Rattle.std.proofs.Common.{rules, ◌≡◌, ◌+◌}
use Rattle.casper_map.proofs.CountLemmas.{nothings, shadow_new}
use Rattle.casper_map.proofs.shadow_map.ShadowMap.new.Goals as goal

pub invariant_of-result : goal.invariant_of-result
invariant_of-result c =
    let none : c.in_ok-places.places.items ≡ nothings (c.args.blocks + c.args.pages) = search rules in
    shadow_new c.args.blocks c.args.pages c.args.frames c.in_ok-places.places.items c.in_ok-named.named c.requires.blocks c.requires.pages c.requires.mapped c.requires.frames none c.in_ok-named.ensures.empty
