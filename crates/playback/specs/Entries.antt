-- The entries that are left of a script's sections, and the wires that they drive.
use Rattle.std.specs.Prelude.{ℕ, ◌/◌, ◌%◌, ◌^◌, Bool, true, ◌&&◌, ◌==◌}
use Rattle.axi.specs.declared.burst.Burst.{Burst}
use Rattle.axi.specs.declared.wires.Inputs.{Inputs}
use Rattle.axi.specs.declared.wires.LowerRead.{LowerRead}
use Rattle.engines.specs.Protocol.{no_beat}
use Rattle.bridge.specs.declared.report.Crossed.{Crossed}
use Rattle.ledgers.specs.Lists.{any, oldest, less_if}
use Rattle.script.specs.Scripts.{MasterEntries, BlockEntries, master_left, block_left}
use Rattle.playback.specs.declared.entries.Entries.{Entries}
use Rattle.playback.specs.declared.entries.Wire.{Wire}
use Rattle.playback.specs.declared.entries.Wire.TheVariants.{AwValid, WValid, BReady, ArValid, RReady, LawReady, LwReady, LbValid, LarReady, LrValid}

-- the entries that are not used up
pub record Stock : Type 0 where
  pub master : MasterEntries
  pub block : BlockEntries

abbrev pub stock : Entries → Stock
stock e = record { master = master_left e.master; block = block_left e.block }

-- the bits of a gate
abbrev pub bit : Wire → ℕ
bit AwValid = 0
bit WValid = 1
bit BReady = 2
bit ArValid = 3
bit RReady = 4
bit LawReady = 5
bit LwReady = 6
bit LbValid = 7
bit LarReady = 8
bit LrValid = 9

abbrev pub allowed : ℕ → Wire → Bool
allowed gate wire = gate / 2 ^ bit wire % 2 == 1

-- what the wires carry where no entry is left
abbrev pub no_burst : Burst
no_burst = record { id = 0; addr = 0; len = 0; size = 0; burst = 0; lock = 0; cache = 0; prot = 0 }

abbrev pub no_part : LowerRead
no_part = record { lrdata = 0; lrresp = 0 }

-- the wires on an edge with this gate: a VALID also needs an entry, and the payload is the first entry that is left
abbrev pub wires_of : Stock → ℕ → Inputs
wires_of e gate = record {
  aresetn = true;
  awvalid = allowed gate AwValid && any e.master.writes;
  aw = oldest no_burst e.master.writes;
  wvalid = allowed gate WValid && any e.master.beats;
  w = oldest no_beat e.master.beats;
  bready = allowed gate BReady;
  arvalid = allowed gate ArValid && any e.master.reads;
  ar = oldest no_burst e.master.reads;
  rready = allowed gate RReady;
  lawready = allowed gate LawReady;
  lwready = allowed gate LwReady;
  lbvalid = allowed gate LbValid && any e.block.wcodes;
  lbresp = oldest 0 e.block.wcodes;
  larready = allowed gate LarReady;
  lrvalid = allowed gate LrValid && any e.block.rparts;
  lr = oldest no_part e.block.rparts;
}

-- the same, shut
unfoldable pub driven : Stock → ℕ → Inputs
driven e gate = wires_of e gate

-- a crossing uses up the first entry
abbrev pub left_after : Stock → Crossed → Stock
left_after e c = record {
  master = record { writes = less_if c.aw e.master.writes; beats = less_if c.w e.master.beats; reads = less_if c.ar e.master.reads };
  block = record { wcodes = less_if c.lb e.block.wcodes; rparts = less_if c.lr e.block.rparts };
}
