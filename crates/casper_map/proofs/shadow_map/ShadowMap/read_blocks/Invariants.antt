use Rattle.std.proofs.Common.{◌≡◌, ◌+◌, ◌*◌, ◌≤◌, length}
use Rattle.std.specs.Prelude.{IsTrue, min}
use Rattle.casper_root.specs.Reading.{IsOnlyRead}
use Rattle.casper_map.specs.Levels.{joined}
use Rattle.casper_map.specs.Mapped.{page_count}
use Rattle.casper_map.specs.Reading.{IsRead, HasNoneFrom, levels_of}
use Rattle.casper_map.proofs.shadow_map.ShadowMap.read_blocks.Given as goal

abbrev pub invariant-loop-number : goal.invariant-loop-number
invariant-loop-number g l = record {
  read : IsTrue g.D.Disk.tells → IsRead (l.map.first_page + min (1024 * l.number) (page_count l.map)) (joined (levels_of (g.D.Disk.content l.initial.disk) l.roots)) l.map;
  unread : HasNoneFrom (l.map.first_page + min (1024 * l.number) (page_count l.map)) l.map;
  blocks : l.map.first_page ≡ length l.roots.body.maps;
  pages : page_count l.map ≡ l.roots.header.pages;
  frames : l.map.frames ≡ l.roots.header.frames;
  only : IsTrue g.D.Disk.tells → IsOnlyRead g.D.Disk.content g.D.Disk.loose g.D.Disk.moment g.D.Disk.images_since l.initial.disk l.disk;
  leads : g.D.Disk.leads_to l.initial.disk l.disk;
  size : g.D.Disk.size l.disk ≡ g.D.Disk.size l.initial.disk;
  never_falls : g.D.Disk.faults l.initial.disk ≤ g.D.Disk.faults l.disk;
}
