use Rattle.scale_info_catalogue.proofs.NumberCaches.{put_in_slots}
use Rattle.scale_info_catalogue.proofs.number_cache.NumberCache.put.Goals as goal

pub returns-then-elements-max : goal.returns-then-elements-max
returns-then-elements-max c =
    put_in_slots c.args.self.now c.put_in_slot.new.self c.free.result c.args.number c.put_in_slot.ensures

pub returns-else-elements-max : goal.returns-else-elements-max
returns-else-elements-max c =
    put_in_slots c.grow.new.self c.put_in_slot-else-elements-max.new.self c.free-else-elements-max.result c.args.number
    c.put_in_slot-else-elements-max.ensures
