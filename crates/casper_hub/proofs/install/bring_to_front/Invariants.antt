use Rattle.std.proofs.Common.{◌≡◌, IsSome, drop}
use Rattle.std.specs.List.{Contains}
use Rattle.casper_words.specs.declared.page.Want.{Want}
use Rattle.casper_cache.specs.Holding.{right_of}
use Rattle.casper_hub.specs.Installing.{all_fronted}
use Rattle.casper_hub.proofs.install.bring_to_front.Given as goal

abbrev pub invariant-loop-want : goal.invariant-loop-want
invariant-loop-want l = record {
  fronted : all_fronted l.cache.held (drop l.want-index l.wants) ≡ all_fronted l.initial.cache.held l.wants;
  rest : l.cache ≡ record (l.initial.cache) { held = l.cache.held };
  held : (want : Want) → Contains l.wants want → IsSome (right_of want.page l.cache.held);
}
