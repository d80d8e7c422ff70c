use Rattle.std.proofs.Common.{◌≡◌, ◌≤◌, ◌*◌, take, sum_by, map, length}
use Rattle.casper_hub.specs.HubView.{cap_of}
use Rattle.casper_hub.specs.Places.{shown_place}
use Rattle.casper_hub.proofs.clients.Clients.promised.Given as goal

-- what is promised to the clients so far
abbrev pub invariant-loop-place : goal.invariant-loop-place
invariant-loop-place l = record {
  shown : map shown_place l.place-items ≡ l.self;
  places : length l.place-items ≡ 33;
  sum : l.promised ≡ sum_by cap_of (take l.place-index l.self);
  few : l.promised ≤ l.place-index * 4294967295;
}
