-- The wires of an edge as the promise speaks of them.
use Rattle.axi.specs.declared.plan.Plan.{Plan}
use Rattle.axi.specs.declared.wires.Inputs as declared
use Rattle.ledgers.specs.Wires.{Inputs}
use Rattle.engines.specs.Protocol.{pieces}

abbrev pub inputs_view : (p : Plan) → declared.Inputs → Inputs (pieces p)
inputs_view p x = record {
  aresetn = x.aresetn;
  awvalid = x.awvalid;
  aw = x.aw;
  wvalid = x.wvalid;
  w = x.w;
  bready = x.bready;
  arvalid = x.arvalid;
  ar = x.ar;
  rready = x.rready;
  lawready = x.lawready;
  lwready = x.lwready;
  lbvalid = x.lbvalid;
  lb = x.lbresp;
  larready = x.larready;
  lrvalid = x.lrvalid;
  lr = x.lr;
}
