use Rattle.std.proofs.Common.{◌≡◌, ◌<◌, ◌^◌, true, take}
use Rattle.std.specs.List.{list_all}
use Rattle.hex_messages.specs.Varint.{goes_on, number_of}
use Rattle.hex_messages.proofs.varint.split_varint.Given as goal

-- the bytes so far go on, and this is their number
abbrev pub invariant-loop-index : goal.invariant-loop-index
invariant-loop-index l = record {
  value : l.number ≡ number_of (take l.index l.text);
  unit : l.unit ≡ 128 ^ l.index;
  small : l.number < l.unit;
  on : list_all goes_on (take l.index l.text) ≡ true;
}
