use Rattle.std.proofs.Common.{◌+◌, ◌*◌}
use Rattle.world_script_base.proofs.saved_scan.Scan.+objects.Given as goal

abbrev pub decreases-read_objects : goal.decreases-read_objects
decreases-read_objects l = 5 * l.nested + 1

abbrev pub decreases-read_object : goal.decreases-read_object
decreases-read_object l = 5 * l.nested

abbrev pub decreases-read_keys : goal.decreases-read_keys
decreases-read_keys l = 5 * l.nested + 4

abbrev pub decreases-read_key : goal.decreases-read_key
decreases-read_key l = 5 * l.nested + 3

abbrev pub decreases-read_field : goal.decreases-read_field
decreases-read_field l = 5 * l.nested + 2
