use Rattle.std.proofs.Common.{◌≡◌, replicate, None}
use Rattle.std.specs.Vec.{vec_capacity, vec_len}
use Rattle.casper_hub.proofs.clients.Clients.new.Given as goal

-- so many places so far, all empty, and memory for all
abbrev pub invariant-loop-place : goal.invariant-loop-place
invariant-loop-place l = record {
  places : l.places.items ≡ replicate l._place None;
  count : vec_len l.places ≡ l._place;
  room : vec_capacity l.places ≡ 33;
}
