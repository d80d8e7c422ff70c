use Rattle.std.specs.Prelude.{Bool, true, false}

-- what stands under a name: the name is not there, its disk is out, or its disk stands there
pub data Place (D : Type 0) : Type 0 where
  Missing : Place D
  Out : Place D
  Standing : D → Place D

-- whether a disk stands there
abbrev pub is_standing : {D : Type 0} → Place D → Bool
is_standing Missing = false
is_standing Out = false
is_standing (Standing disk) = true

-- whether the name is there
abbrev pub is_there : {D : Type 0} → Place D → Bool
is_there Missing = false
is_there Out = true
is_there (Standing disk) = true
