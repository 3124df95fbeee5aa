-- The sizes that a layout is made for.
use Rattle.dbp_slots.specs.declared.layouts.Layout.{Layout}
use Rattle.dbp_slots.specs.LayoutBlocks.{sizes_by}
use Rattle.dbp_slots.specs.TableWords.{Sizes}

abbrev pub sizes : Layout → Sizes
sizes l = sizes_by l.tasks l.links l.blocks
