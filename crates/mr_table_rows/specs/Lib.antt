pub mod StampColumns
