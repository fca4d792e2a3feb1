-- What each sort of receiver means. Assumes nothing.
use Rattle.receivers.specs.declared.table.TableReceiver.{TableReceiver}
use Rattle.receivers.specs.declared.raster.RasterReceiver.{RasterReceiver}
use Rattle.receivers.specs.declared.fence.Fence.{Fence}
use Rattle.receivers.specs.declared.converter.Converter.{Converter}
use Rattle.receivers.specs.Meaning.{Meaning}
use Rattle.receivers.specs.Tables.{table}
use Rattle.receivers.specs.Rasters.{raster}
use Rattle.receivers.specs.Fences.{fence}
use Rattle.receivers.specs.Converters.{convert}

abbrev pub table_means : TableReceiver → Meaning
table_means t = table t.coverage t.numbers

abbrev pub raster_means : RasterReceiver → Meaning
raster_means r = raster r.plan r.channel r.gain r.squelch

abbrev pub fence_means : {R : Type 0} → (R → Meaning) → Fence R → Meaning
fence_means m f = fence f.low f.high (m f.below)

abbrev pub converter_means : {R : Type 0} → (R → Meaning) → Converter R → Meaning
converter_means m c = convert c.shift (m c.below)
