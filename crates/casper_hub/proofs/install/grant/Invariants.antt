use Rattle.std.proofs.Common.{◌≡◌, ◌≢◌, ℕ, ◌+◌, ◌++◌, IsSome, length, drop}
use Rattle.std.specs.List.{Contains}
use Rattle.casper_words.specs.Crew.{IsClient}
use Rattle.casper_words.specs.declared.page.Want.{Want}
use Rattle.casper_trail.specs.TrailView.{entry_count}
use Rattle.casper_trail.specs.Parts.{as_items}
use Rattle.casper_model.specs.Acquire.{touches_by}
use Rattle.casper_dir.specs.Rights.{right_at, AreAllClients}
use Rattle.casper_cache.specs.Holding.{right_of}
use Rattle.casper_hub.specs.Installing.{all_granted, all_raised}
use Rattle.casper_hub.proofs.install.grant.Given as goal

abbrev pub invariant-loop-want : goal.invariant-loop-want
invariant-loop-want l = record {
  items : l.trail.items ++ as_items (touches_by l.who (drop l.want-index l.missing)) ≡ l.initial.trail.items ++ as_items (touches_by l.who l.missing);
  limit : l.trail.limit ≡ l.initial.trail.limit;
  room : l.trail.room + l.want-index ≡ l.initial.trail.room;
  entries : entry_count l.trail.items ≡ entry_count l.initial.trail.items + l.want-index;
  count : length l.pages.rights ≡ length l.initial.pages.rights;
  rights : (page : ℕ) → all_granted page (right_at l.pages.rights l.who page) (drop l.want-index l.missing) ≡ all_granted page (right_at l.initial.pages.rights l.who page) l.missing;
  others : (client page : ℕ) → IsClient client → client ≢ l.who → right_at l.pages.rights client page ≡ right_at l.initial.pages.rights client page;
  holders : AreAllClients l.initial.pages.rights → AreAllClients l.pages.rights;
  frames : l.pages.frames ≡ l.initial.pages.frames;
  raises : all_raised l.cache.held (drop l.want-index l.missing) ≡ all_raised l.initial.cache.held l.missing;
  rest : l.cache ≡ record (l.initial.cache) { held = l.cache.held };
  held : (want : Want) → Contains l.missing want → IsSome (right_of want.page l.cache.held);
}
